-- 14, 13, 16, or what is found. Assumes nothing.
use Rattle.std.proofs.Common.{sym}
use Rattle.taskset.specs.ChangingLaws.{on_made_14}
use Rattle.relaxation.specs.Relaxing.{relaxing_on, relaxing}
use Rattle.relaxation.proofs.RelaxingLaws.{relax_13, relax_16, relax_found, relax_says}
use Rattle.relaxation.proofs.relax.Goals as goal

pub returns-in_default-clause-value : goal.returns-in_default-clause-value
unfolding relaxing
returns-in_default-clause-value c = on_made_14 c.args.set.now (λ l. relaxing_on l c.args.budget) (sym c.in_default.ensures.made)

pub returns-in_default-clause-says : goal.returns-in_default-clause-says
returns-in_default-clause-says c = relax_says _ _ _ (returns-in_default-clause-value c)

pub returns-then-is_empty-clause-value : goal.returns-then-is_empty-clause-value
returns-then-is_empty-clause-value c =
    let e = c.in-Some.ensures in relax_13 c.args.set.now c.args.budget (sym e.made) _ e.lists (sym c.if-is_empty.ensures)

pub returns-then-is_empty-clause-says : goal.returns-then-is_empty-clause-says
returns-then-is_empty-clause-says c = relax_says _ _ _ (returns-then-is_empty-clause-value c)

pub returns-then-not-contains-clause-value : goal.returns-then-not-contains-clause-value
returns-then-not-contains-clause-value c =
    let e = c.in-Some.ensures in
    let n = c.new.ensures in
    let out = rw (n.start, n.end, n.exhausted) at c.if-not-contains.ensures.value in
    relax_16 c.args.set.now c.args.budget (sym e.made) _ e.lists (sym c.if-is_empty.ensures) (sym out)

pub returns-then-not-contains-clause-says : goal.returns-then-not-contains-clause-says
returns-then-not-contains-clause-says c = relax_says _ _ _ (returns-then-not-contains-clause-value c)

pub returns-clause-value : goal.returns-clause-value
returns-clause-value c =
    let e = c.in-Some.ensures in
    let n = c.new.ensures in
    let inside = rw (n.start, n.end, n.exhausted) at c.if-not-contains.ensures.value in
    relax_found c.args.set.now c.args.budget (sym e.made) _ e.lists (sym c.if-is_empty.ensures) (sym inside) _ c.relaxed_within.ensures

pub returns-clause-says : goal.returns-clause-says
returns-clause-says c = relax_says _ _ _ (returns-clause-value c)
