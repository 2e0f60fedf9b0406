-- None of the tasks tried so far may take the level.
use Rattle.std.proofs.Common.{◌≡◌, length}
use Rattle.sets.specs.Bounded.{greatest}
use Rattle.assignment.specs.Search.{within}
use Rattle.assignment.specs.Views.{candidates_at}
use Rattle.assignment.proofs.level.OpenLevel.choose_below.Given as goal

abbrev pub invariant-loop-i : goal.invariant-loop-i
invariant-loop-i l = greatest l.i (within (candidates_at l.self)) ≡ greatest (length l.self.tasks.list.now) (within (candidates_at l.self))
