-- The lines so far are in the buffer, and with those that are left they are all.
use Rattle.std.proofs.Common.{◌≡◌, ◌++◌, List, ℕ}
use Rattle.std.specs.Slice.Iter.{chunks_exact_rest, chunks_exact_size}
use Rattle.sets.specs.Onto.{Front}
use Rattle.lines.specs.Line.{lines_of, chunks}
use Rattle.lines.proofs.put_rows.Given as goal

abbrev pub invariant-loop-row : goal.invariant-loop-row
invariant-loop-row l =
    (chunks_exact_size l.row-iterator ≡ l.width)
    × (done : List ℕ) × Front done l.fn.out l.at l.out
    × (done ++ lines_of l.head (chunks l.width (chunks_exact_rest l.row-iterator)) ≡ lines_of l.head (chunks l.width l.numbers))
