-- The first sets are looked at.
use Rattle.std.proofs.Common.{◌≡◌}
use Rattle.taskset.specs.Views.{lists_of}
use Rattle.assignment.specs.Audsley.{problem}
use Rattle.subsets.specs.Subsets.{feasible_set}
use Rattle.relaxation.specs.Table.{cores_listed}
use Rattle.relaxation.proofs.table.cores_listed.Given as goal

abbrev pub invariant-loop-set : goal.invariant-loop-set
invariant-loop-set l = let p = problem (lists_of l.system) in l.listed ≡ cores_listed p (feasible_set p) l.set
