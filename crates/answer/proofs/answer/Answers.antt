-- A text that is read holds sound lists, whose verdict is shown.
use Rattle.std.proofs.Common.{◌≡◌, Ok, sym, ap, ◌∙◌}
use Rattle.std.proofs.lemmas.Result.{err_from_is_err_and}
use Rattle.taskset.specs.Adding.{lists}
use Rattle.taskset.specs.Views.{lists_of}
use Rattle.taskset.specs.Holding.{lists-holding}
use Rattle.text.specs.Text.{reading}
use Rattle.text.specs.Asking.{reading_sound}
use Rattle.listing.specs.Listing.{outcome}
use Rattle.answer.specs.Answer.{answer_to}
use Rattle.answer.specs.Answering.{read_shown, listed_said, refused_said, listed_gives}
use Rattle.answer.proofs.answer.Goals as goal
use Rattle.answer.proofs.answer.Goals.{After-show}

pub system-system-requires-clause-counts : goal.system-system-requires-clause-counts
system-system-requires-clause-counts c =
    rw c.hear_lines.ensures.set ((reading_sound _).tasks.few, (reading_sound _).few_rules)

pub system-system-requires-clause-sound : goal.system-system-requires-clause-sound
system-system-requires-clause-sound c =
    rw (c.hear_lines.ensures.set, lists-holding _) (reading_sound _)

read : (c : After-show) → (reading c.args.text.now).answer ≡ Ok c.in_ok-hear_lines.field-0
read c = sym c.hear_lines.ensures.answer ∙ c.in_ok-hear_lines.was

same : (c : After-show) → outcome (lists_of c.system-system.result) c.decide-decided.result.verdict ≡ answer_to c.args.text.now
same c =
    read_shown c.args.text.now c.args.out.now (read c)
    (c.system-system.ensures ∙ ap lists c.hear_lines.ensures.set ∙ lists-holding (reading c.args.text.now).lists)
    c.decide-decided.ensures.verdict_value

-- so it is refused
pub returns-in_err-count-clause-value : goal.returns-in_err-count-clause-value
returns-in_err-count-clause-value c =
    let at = (goal.at.returns-in_err-count-clause-value c).After-show in
    let p = err_from_is_err_and c.from_residual-in_err-count.result c.from_residual-in_err-count.ensures.1 in
    rw (p.1, p.2) (refused_said c.args.text.now c.args.out.now (read at) (sym c.in_err-count.was ∙ rw (same at) at at.show.ensures.value))

pub returns-in_err-count-clause-bytes : goal.returns-in_err-count-clause-bytes
returns-in_err-count-clause-bytes c =
    let at = (goal.at.returns-in_err-count-clause-bytes c).After-show in rw (same at) at at.show.ensures.bytes

-- or listed
pub returns-clause-value : goal.returns-clause-value
returns-clause-value c =
    let at = (goal.at.returns-clause-value c).After-show in
    listed_said c.args.text.now c.args.out.now (read at) (sym c.in_ok-count.was ∙ rw (same at) at at.show.ensures.value)

pub returns-clause-bytes : goal.returns-clause-bytes
returns-clause-bytes c = let at = (goal.at.returns-clause-bytes c).After-show in rw (same at) at at.show.ensures.bytes

pub returns-clause-gives : goal.returns-clause-gives
returns-clause-gives c = listed_gives c.args.text.now c.args.out.now (returns-clause-value c) (returns-clause-bytes c)
