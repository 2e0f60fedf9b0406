-- Every core that is kept whole is listed, as far as it shares no rule with those before. Assumes nothing.
use Rattle.std.proofs.Common.{true, false, ◌∙◌, ap, sym, arith, le_antisymm}
use Rattle.sets.specs.Marks.{marked}
use Rattle.relaxation.specs.Disjoint.{max_remembered, listed_in}
use Rattle.relaxation.proofs.DisjointLaws.{listed_in_count, listed_in_small, listed_in_bound}
use Rattle.relaxation.proofs.DisjointSteps.{listed_none, listed_next}
use Rattle.relaxation.proofs.cores.Cores.listed_in.Goals as goal
use Rattle.relaxation.proofs.cores.Cores.listed_in.Goals.{then-included, else-included}

pub loop-i-init : goal.loop-i-init
loop-i-init c = c.none-listed.ensures ∙ listed_none c.args.rules.now c.args.self.now.sets (marked c.args.kept.now)

pub add-requires-clause-few : goal.add-requires-clause-few
add-requires-clause-few c =
    let count = listed_in_count c.args.rules.now c.args.self.now.sets (marked c.args.kept.now) c.loop-i.i in
    rw c.loop-i.invariant (omega (arith, count, c.loop-i-test.true, c.requires.few))

pub add-requires-clause-small : goal.add-requires-clause-small
add-requires-clause-small c = rw c.loop-i.invariant (listed_in_small c.args.rules.now c.args.self.now.sets (marked c.args.kept.now) c.loop-i.i)

pub loop-i-preserved : goal.loop-i-preserved
loop-i-preserved c =
    let at = c.loop-i in
    elim c.if-included.branch [
      | then-included w ↦ w.listed-is ∙ w.add.ensures ∙ listed_next _ _ _ at.i at.listed at.invariant true (sym w.if-included.ensures)
      | else-included w ↦ w.listed-is ∙ listed_next _ _ _ at.i at.listed at.invariant false (sym w.if-included.ensures)
    ]

pub returns-clause-value : goal.returns-clause-value
returns-clause-value c =
    c.loop-i.invariant
    ∙ ap (listed_in c.args.rules.now c.args.self.now.sets (marked c.args.kept.now)) (le_antisymm c.loop-i.auto.i-end c.loop-i-test.false)

pub returns-clause-small : goal.returns-clause-small
returns-clause-small c =
    rw c.loop-i.invariant
    (listed_in_bound c.args.rules.now c.args.self.now.sets (marked c.args.kept.now) c.loop-i.i max_remembered (omega (arith, c.loop-i.auto.i-end, c.requires.few)))
