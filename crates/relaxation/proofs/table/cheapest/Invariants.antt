-- The cheapest of the first sets.
use Rattle.taskset.specs.Views.{lists_of}
use Rattle.assignment.specs.Audsley.{problem}
use Rattle.relaxation.proofs.TableSteps.{Cheapest}
use Rattle.relaxation.proofs.table.cheapest.Given as goal

abbrev pub invariant-loop-set : goal.invariant-loop-set
invariant-loop-set l = Cheapest (problem (lists_of l.system)) l.set l.best l.least
