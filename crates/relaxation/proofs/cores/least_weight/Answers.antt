-- A weight is the least so far where the rule is one of these and lighter than those before. Assumes nothing.
use Rattle.std.proofs.Common.{◌∙◌, true, false, arith, le_antisymm}
use Rattle.sets.specs.Marks.{marked}
use Rattle.relaxation.proofs.DisjointSteps.{least_none, least_small, least_next}
use Rattle.relaxation.proofs.cores.least_weight.Goals as goal
use Rattle.relaxation.proofs.cores.least_weight.Goals.{then-these-k, else-these-k}

pub loop-k-init : goal.loop-k-init
loop-k-init c = least_none c.args.rules.now (marked c.args.these.now)

pub loop-k-preserved : goal.loop-k-preserved
loop-k-preserved c =
    let at = c.loop-k in
    elim c.if-these-k.branch [
      | then-these-k w ↦ w.least-is ∙ least_next _ _ at.k at.least at.invariant true w.if-these-k.true
      | else-these-k w ↦ w.least-is ∙ least_next _ _ at.k at.least at.invariant false w.if-these-k.false
    ]

pub returns-clause-value : goal.returns-clause-value
returns-clause-value c = rw (le_antisymm c.loop-k-test.false c.loop-k.auto.k-end) c.loop-k.invariant

pub returns-clause-small : goal.returns-clause-small
returns-clause-small c = omega (arith, c.loop-k.invariant, least_small c.args.rules.now (marked c.args.these.now) c.loop-k.k)
