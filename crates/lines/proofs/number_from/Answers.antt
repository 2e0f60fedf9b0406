-- The first byte is a digit, and so is the next.
use Rattle.std.proofs.Common.{sym, ◌∙◌, arith}
use Rattle.std.proofs.lemmas.List.{take_rest}
use Rattle.lines.specs.Reading.{first_read, read_more}
use Rattle.lines.proofs.number_from.Goals as goal

pub loop-more-init : goal.loop-more-init
loop-more-init c =
    first_read c.args.line.now c.args.at
    (sym (take_rest c.args.line.now c.args.at) ∙ sym c.in_ok-get.ensures.lookup.0.2 ∙ c.in_ok-first.ensures.cases.0)
    c.in_ok-value.ensures

pub loop-more-preserved : goal.loop-more-preserved
loop-more-preserved c =
    read_more c.loop-more.invariant c.loop-more-test.true (omega arith) (omega arith) (omega arith) c.in_ok-value-2.ensures
