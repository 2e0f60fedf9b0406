-- Each row's line into the rest of the buffer.
use Rattle.std.proofs.Common.{[], arith}
use Rattle.sets.specs.Onto.{front_none}
use Rattle.sets.specs.Flat.{no_piece}
use Rattle.lines.specs.Line.{line}
use Rattle.lines.specs.LineWriting.{line_put, lines_done}
use Rattle.lines.proofs.put_lines.Goals as goal

pub loop-line-init : goal.loop-line-init
loop-line-init g c = no_piece (line _) [] [] front_none

pub loop-line-preserved : goal.loop-line-preserved
loop-line-preserved g c =
    line_put _ _ _ c.loop-line.invariant c.loop-line-test.true c.line-item.is c.put_line-at.ensures.value c.put_line-at.ensures.written

pub returns : goal.returns
returns g c = let all = lines_done c.args.head.now _ _ c.loop-line.invariant (omega arith) in record { value = all.count; written = all.list }
