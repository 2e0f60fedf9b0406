-- Of the tasks seen so far, none has more room than the roomiest, or than is known to hold no window.
use Rattle.sets.specs.Marks.{marked}
use Rattle.assignment.specs.LevelWindow.{Roomiest}
use Rattle.assignment.proofs.choosing.level_window.Given as goal

abbrev pub invariant-loop-j : goal.invariant-loop-j
invariant-loop-j l = Roomiest l.tasks.list.now (marked l.these) l.known l.j l.roomiest.0 l.most
