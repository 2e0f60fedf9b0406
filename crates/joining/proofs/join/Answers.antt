-- The call as its definition has it, and what that says. Assumes nothing.
use Rattle.std.proofs.Common.{◌∙◌, sym, max, min}
use Rattle.taskset.specs.ChangingLaws.{changing_refused, changing_taken}
use Rattle.joining.specs.Joining.{join_refusal, joined, joining}
use Rattle.joining.proofs.JoinLaws.{join_places, join_says}
use Rattle.joining.proofs.join.Goals as goal

pub returns-then-is_err-clause-value : goal.returns-then-is_err-clause-value
unfolding joining
returns-then-is_err-clause-value c =
    let p = c.args.first.0 in
    let q = c.args.second.0 in
    changing_refused c.args.set (join_refusal p q) (joined (min p q) (max p q)) _ c.check-answer.ensures
    (sym c.is_err.ensures.value ∙ c.if-is_err.true)

pub returns-then-is_err-clause-says : goal.returns-then-is_err-clause-says
returns-then-is_err-clause-says c = join_says _ _ _ _ (returns-then-is_err-clause-value c)

pub merge-requires-clause-places : goal.merge-requires-clause-places
merge-requires-clause-places c =
    rw (c.min.ensures, c.max.ensures)
    (join_places c.args.set c.args.first.0 c.args.second.0 _ c.check-answer.ensures (sym c.is_err.ensures.value ∙ c.if-is_err.false))

pub returns-clause-value : goal.returns-clause-value
unfolding joining
returns-clause-value c =
    let p = c.args.first.0 in
    let q = c.args.second.0 in
    changing_taken c.args.set (join_refusal p q) (joined (min p q) (max p q)) _ c.check-answer.ensures
    (sym c.is_err.ensures.value ∙ c.if-is_err.false) _ (rw (c.min.ensures, c.max.ensures) at c.merge.ensures)

pub returns-clause-says : goal.returns-clause-says
returns-clause-says c = join_says _ _ _ _ (returns-clause-value c)
