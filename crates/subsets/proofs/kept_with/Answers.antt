-- A trial finds an order exactly where there is one. Assumes nothing.
use Rattle.std.proofs.Common.{◌∙◌, sym, ap, arith, eqb→eq, eq-eqb}
use Rattle.sets.specs.Choice.{refuted→false}
use Rattle.sets.specs.Marks.{marked}
use Rattle.taskset.specs.Views.{lists_of}
use Rattle.assignment.specs.Audsley.{feasible, problem}
use Rattle.feasibility.proofs.TryingLaws.{none_free}
use Rattle.subsets.proofs.FoundLaws.{found_valid, kept_grown}
use Rattle.subsets.proofs.kept_with.Goals as goal

pub returns-then-search-gt0-clause-found : goal.returns-then-search-gt0-clause-found
returns-then-search-gt0-clause-found c =
    let l = lists_of c.args.system in
    let e = none_free l c.args.system.sound _ _ c.trial-search.ensures.decides in
    sym (refuted→false _ (λ t. omega (arith, eqb→eq _ _ t, c.if-search-gt0.true))) ∙ e ∙ ap (feasible (problem l)) c.marks.ensures

pub rules_kept-requires-clause-is_order : goal.rules_kept-requires-clause-is_order
rules_kept-requires-clause-is_order c =
    (found_valid (lists_of c.args.system) c.args.system.sound (marked c.marks.result) c.trial-search.result c.trial-search.ensures.ended
    (omega (arith, c.if-search-gt0.false))).is_order

pub returns-clause-found : goal.returns-clause-found
returns-clause-found c =
    let l = lists_of c.args.system in
    let e = none_free l c.args.system.sound _ _ c.trial-search.ensures.decides in
    sym (eq-eqb c.trial-search.result.free 0 (omega (arith, c.if-search-gt0.false))) ∙ e ∙ ap (feasible (problem l)) c.marks.ensures

pub returns-clause-kept : goal.returns-clause-kept
returns-clause-kept c =
    rw c.rules_kept.ensures
    (kept_grown (lists_of c.args.system) c.args.system.sound (marked c.marks.result) c.trial-search.result c.trial-search.ensures.ended
    (omega (arith, c.if-search-gt0.false)) c.requires.few c.args.set c.marks.ensures)
