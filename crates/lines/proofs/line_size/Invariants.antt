-- Each number adds its digits, at most 20, and a byte.
use Rattle.std.proofs.Common.{◌≡◌, ◌+◌, ◌*◌, ◌≤◌, length, take}
use mathlib.Core.List.{flat_map}
use Rattle.lines.specs.LineWriting.{tabbed}
use Rattle.lines.proofs.line_size.Given as goal

abbrev pub invariant-loop-number : goal.invariant-loop-number
invariant-loop-number l = record {
  so_far : l.bytes ≡ l.head + length (flat_map tabbed (take l.number-index l.numbers));
  few : l.bytes ≤ l.head + 21 * l.number-index;
}
