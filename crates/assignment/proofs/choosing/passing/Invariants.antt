-- What is marked so far is known to pass.
use Rattle.std.proofs.Common.{◌≡◌, length}
use Rattle.sets.specs.Marks.{marked}
use Rattle.taskset.specs.Refusals.{max_tasks}
use Rattle.assignment.specs.Audsley.{bare}
use Rattle.assignment.specs.Search.{Known}
use Rattle.assignment.proofs.choosing.passing.Given as goal

abbrev pub invariant-loop-j : goal.invariant-loop-j
invariant-loop-j l =
    record { long : length l.known ≡ max_tasks; known : Known (bare l.tasks.list.now) (marked l.left) (marked l.known) }
