-- Every rule is looked at. Assumes nothing.
use Rattle.std.proofs.Common.{false, ◌∙◌, ap, arith, le_antisymm}
use Rattle.std.proofs.lemmas.List.{length-set, length-replicate}
use Rattle.sets.specs.Marks.{marked}
use Rattle.taskset.specs.Refusals.{max_rules}
use Rattle.relaxation.proofs.DroppedSteps.{first_others, others_none, others_next, others_all}
use Rattle.relaxation.proofs.dropped.Goals as goal

pub loop-k-init : goal.loop-k-init
loop-k-init c = record { long = length-replicate max_rules false; marks = others_none (marked c.args.kept.now) }

pub loop-k-preserved : goal.loop-k-preserved
loop-k-preserved c =
    let at = c.loop-k in
    let i = at.invariant in
    record {
      long = simp length-set i.long;
      marks = others_next (marked c.args.kept.now) at.k at.dropped (omega (arith, i.long, c.loop-k-test.true, c.requires)) i.marks;
    }

pub returns : goal.returns
returns c =
    let at = c.loop-k in
    let i = at.invariant in
    others_all c.args.rules (marked c.args.kept.now) at.dropped i.long c.requires
    (i.marks ∙ ap (first_others (marked c.args.kept.now)) (le_antisymm at.auto.k-end c.loop-k-test.false))
