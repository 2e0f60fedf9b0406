-- Each row adds its line.
use Rattle.std.proofs.Common.{◌≡◌, ◌*◌, ◌≤◌, List, ℕ, length, take}
use mathlib.Core.List.{flat_map}
use Rattle.lines.specs.Line.{line, max_line}
use Rattle.lines.proofs.lines_size.Given as goal

abbrev pub invariant-loop-line : goal.invariant-loop-line
invariant-loop-line g l = record {
  so_far : (h : List ℕ) → length h ≡ l.head → l.bytes ≡ length (flat_map (line h) (take l.line-index l.lines));
  few : l.bytes ≤ max_line * l.line-index;
}
