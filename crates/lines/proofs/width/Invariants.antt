-- The digits counted and those of what is left are all.
use Rattle.std.proofs.Common.{◌≡◌, ◌+◌, ◌^◌, ◌<◌, length}
use Rattle.lines.specs.Decimal.{decimal}
use Rattle.lines.proofs.width.Given as goal

abbrev pub invariant-loop-rest : goal.invariant-loop-rest
invariant-loop-rest l = record {
  all : length (decimal l.n) + 1 ≡ length (decimal l.rest) + l.digits;
  few : l.digits + l.rest < 2 ^ 64 + 1;
}

abbrev pub decreases-loop-rest : goal.decreases-loop-rest
decreases-loop-rest l = l.rest
