-- The head is written into the buffer, and the numbers so far are written after it.
use Rattle.sets.specs.Onto.{Front}
use Rattle.sets.specs.Flat.{with_pieces}
use Rattle.lines.specs.LineWriting.{tabbed}
use Rattle.lines.proofs.put_line.Given as goal

abbrev pub invariant-loop-number : goal.invariant-loop-number
invariant-loop-number l = Front (with_pieces tabbed l.head l.others l.number-index) l.fn.out l.at l.out
