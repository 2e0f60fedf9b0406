-- The candidates of an open level, as the contracts of its methods cite them. Assumes nothing.
use Rattle.std.specs.Prelude.{Option, ℕ}
use Rattle.sets.specs.Marks.{marked}
use Rattle.assignment.specs.declared.level.OpenLevel.{OpenLevel}
use Rattle.assignment.specs.Audsley.{response_at}
use Rattle.assignment.specs.Search.{candidate}

abbrev pub candidates_at : OpenLevel → ℕ → Option ℕ
candidates_at l = candidate (response_at l.tasks.list.now) (marked l.ready.now) (marked l.left.now)
