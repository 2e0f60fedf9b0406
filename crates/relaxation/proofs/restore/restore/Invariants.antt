-- The first n turns are taken.
use Rattle.std.proofs.Common.{◌≡◌}
use Rattle.taskset.specs.Views.{lists_of}
use Rattle.assignment.specs.Audsley.{problem}
use Rattle.relaxation.specs.Restoring.{restored}
use Rattle.relaxation.proofs.restore.restore.Given as goal

abbrev pub invariant-loop-n : goal.invariant-loop-n
invariant-loop-n l = l.restoring ≡ restored (problem (lists_of l.system)) l.budget l.n
