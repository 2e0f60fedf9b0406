-- Each row's line into the rest of the buffer.
use Rattle.std.proofs.Common.{[]}
use Rattle.sets.specs.Onto.{Front}
use Rattle.sets.specs.Flat.{with_pieces}
use Rattle.lines.specs.Line.{line}
use Rattle.lines.proofs.put_lines.Given as goal

abbrev pub invariant-loop-line : goal.invariant-loop-line
invariant-loop-line g l = Front (with_pieces (line l.head) [] l.lines l.line-index) l.fn.out l.at l.out
