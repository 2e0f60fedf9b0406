-- The bytes so far are the digits of the value so far.
use Rattle.lines.specs.Reading.{DigitsRead}
use Rattle.lines.proofs.number_from.Given as goal

abbrev pub invariant-loop-more : goal.invariant-loop-more
invariant-loop-more l = DigitsRead l.line l.at l.value l.rest l.more
