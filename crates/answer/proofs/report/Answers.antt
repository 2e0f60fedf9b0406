-- The listing stands in the buffer; a refusal's line goes into it as it was.
use Rattle.std.proofs.Common.{sym, ap, ◌∙◌, length}
use Rattle.sets.specs.Onto.{onto}
use Rattle.taskset.specs.Numbering.{number}
use Rattle.answer.specs.Answer.{bad_line}
use Rattle.answer.specs.Answering.{report_listed, report_refused}
use Rattle.answer.proofs.report.Goals as goal

pub returns-in-Ok-clause-value : goal.returns-in-Ok-clause-value
returns-in-Ok-clause-value c =
    (report_listed c.args.text.now c.args.out.now c.requires (sym c.in-Ok.is ∙ c.answer.ensures.value)).0

pub returns-in-Ok-clause-bytes : goal.returns-in-Ok-clause-bytes
returns-in-Ok-clause-bytes c =
    c.answer.ensures.bytes ∙ (report_listed c.args.text.now c.args.out.now c.requires (sym c.in-Ok.is ∙ c.answer.ensures.value)).1

pub returns-in-Err-clause-value : goal.returns-in-Err-clause-value
returns-in-Err-clause-value c =
    c.write_bad.ensures.value
    ∙ ap length (report_refused c.args.text.now c.args.out.now c.requires (sym c.in-Err.is ∙ c.answer.ensures.value)).0

pub returns-in-Err-clause-bytes : goal.returns-in-Err-clause-bytes
returns-in-Err-clause-bytes c =
    let r = report_refused c.args.text.now c.args.out.now c.requires (sym c.in-Err.is ∙ c.answer.ensures.value) in
    c.write_bad.ensures.bytes
    ∙ ap (onto (bad_line c.in-Err.bad.line (number c.in-Err.bad.refusal))) (c.answer.ensures.bytes ∙ r.1)
    ∙ ap (λ bytes. onto bytes c.args.out.now) r.0
