-- Nobody left stands at the level or further down in the other search.
use Rattle.std.proofs.Common.{length}
use Rattle.sets.specs.Marks.{marked}
use Rattle.assignment.specs.Hints.{NoneFrom}
use Rattle.assignment.proofs.level.OpenLevel.choose_last.Given as goal

abbrev pub invariant-loop-level : goal.invariant-loop-level
invariant-loop-level l = NoneFrom (length l.self.tasks.list.now) l.other.order (marked l.self.left.now) l.level
