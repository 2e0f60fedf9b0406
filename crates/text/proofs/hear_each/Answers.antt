-- A line that ends the reading gives what the whole text gives; and so does the text's end.
use Rattle.std.proofs.Common.{rules}
use Rattle.std.proofs.lemmas.Result.{err_from_is_err_and}
use Rattle.text.specs.Lines.{answer_of, so_far_made, text_ends, text_held, line_unended, line_unread, line_mapped}
use Rattle.text.proofs.hear_each.Goals as goal

pub returns-in_default-clause-answer : goal.returns-in_default-clause-answer
returns-in_default-clause-answer c =
    answer_of (line_unended c.loop-reader.invariant c.loop-reader-test.true c.in_default.ensures.line.0)

pub returns-in_default-parse-clause-answer : goal.returns-in_default-parse-clause-answer
returns-in_default-parse-clause-answer c =
    let (at, ended, _) = c.in-Some.ensures.line in
    answer_of (line_unread c.loop-reader.invariant ended at c.in_default-parse.ensures)

pub hear-requires : goal.hear-requires
hear-requires c = so_far_made c.loop-reader.invariant

pub returns-in_err-map_err-clause-answer : goal.returns-in_err-map_err-clause-answer
returns-in_err-map_err-clause-answer c =
    let (at, ended, _) = c.in-Some.ensures.line in
    let p = err_from_is_err_and c.from_residual.result c.from_residual.ensures.1 in
    let m = line_mapped c.loop-reader.invariant ended at c.in-Some-parse.ensures _ c.hear.ensures.answer c.in_err-map_err.was c.map_err.ensures.cases (λ e y h. search rules) in
    rw (p.1, p.2) m

pub returns-clause-answer : goal.returns-clause-answer
returns-clause-answer c = answer_of (text_ends c.loop-reader.invariant c.loop-reader-test.false)

pub returns-clause-set : goal.returns-clause-set
returns-clause-set c = text_held c.loop-reader.invariant c.loop-reader-test.false
