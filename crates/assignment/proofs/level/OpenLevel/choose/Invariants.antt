-- None of the tasks seen so far may take the level, and the level has no window in the room that is known.
use Rattle.std.proofs.Common.{◌≡◌, ◌≤◌, length}
use Rattle.sets.specs.Bounded.{greatest}
use Rattle.sets.specs.Marks.{marked}
use Rattle.assignment.specs.Search.{within}
use Rattle.assignment.specs.LevelWindow.{Windowless}
use Rattle.assignment.specs.Views.{candidates_at}
use Rattle.assignment.proofs.level.OpenLevel.choose.Given as goal

abbrev pub invariant-loop-i : goal.invariant-loop-i
invariant-loop-i l =
    record {
      few : l.tried ≤ 2;
      late : greatest l.i (within (candidates_at l.self)) ≡ greatest (length l.self.tasks.list.now) (within (candidates_at l.self));
      windowless : Windowless l.self.tasks.list.now (marked l.self.ready.now) (marked l.self.left.now) l.known;
    }
