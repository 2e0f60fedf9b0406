-- The bytes so far and those of the lines that are left are all.
use Rattle.std.proofs.Common.{◌≡◌, ◌+◌, ◌*◌, ◌≤◌, List, ℕ, length}
use Rattle.std.specs.Slice.Iter.{chunks_exact_rest, chunks_exact_size}
use Rattle.lines.specs.Line.{lines_of, chunks, max_line}
use Rattle.lines.proofs.rows_size.Given as goal

abbrev pub invariant-loop-row : goal.invariant-loop-row
invariant-loop-row l = record {
  size : chunks_exact_size l.row-iterator ≡ l.width;
  left : (h : List ℕ) → length h ≡ l.head
      → length (lines_of h (chunks l.width l.numbers)) ≡ l.bytes + length (lines_of h (chunks l.width (chunks_exact_rest l.row-iterator)));
  few : l.bytes + max_line * length (chunks_exact_rest l.row-iterator) ≤ max_line * length l.numbers;
}
