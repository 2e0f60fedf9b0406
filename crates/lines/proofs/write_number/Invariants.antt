-- The digits of what is left, with what is written after them, are the whole.
use Rattle.lines.specs.Writing.{DigitsLeft}
use Rattle.lines.proofs.write_number.Given as goal

abbrev pub invariant-loop-place : goal.invariant-loop-place
invariant-loop-place l = DigitsLeft l.n l.initial.out l.rest l.place l.out
