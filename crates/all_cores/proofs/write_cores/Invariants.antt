-- The cores among the first sets stand in the front of the buffer.
use Rattle.sets.specs.Onto.{Front}
use Rattle.taskset.specs.Views.{lists_of}
use Rattle.assignment.specs.Audsley.{problem}
use Rattle.all_cores.specs.Enumerating.{cores_below}
use Rattle.all_cores.proofs.write_cores.Given as goal

abbrev pub invariant-loop-set : goal.invariant-loop-set
invariant-loop-set l = Front (cores_below (problem (lists_of l.system)) l.set) l.fn.out l.count l.out
