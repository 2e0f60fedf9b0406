-- Every rule is looked at. Assumes nothing.
use Rattle.std.proofs.Common.{true, false, ◌∙◌, ap, le_antisymm}
use Rattle.sets.specs.Marks.{marked}
use Rattle.relaxation.specs.Frontier.{branched}
use Rattle.relaxation.proofs.FrontierSteps.{branched_none, branched_next}
use Rattle.relaxation.proofs.frontier.Frontier.branch.Goals as goal
use Rattle.relaxation.proofs.frontier.Frontier.branch.Goals.{then-core-k, else-core-k}

pub loop-k-init : goal.loop-k-init
loop-k-init c =
    record {
      value = branched_none c.args.system.rules.now c.args.cores.now c.args.limit c.args.set.now (marked c.args.core.now) c.args.self.now;
      few = c.requires.few;
    }

pub loop-k-preserved : goal.loop-k-preserved
loop-k-preserved c =
    let at = c.loop-k in
    let i = at.invariant in
    elim c.if-core-k.branch [
      | then-core-k w ↦
          rw w.self-is
          (record {
            value = w.add_child.ensures.value ∙ branched_next _ _ _ _ _ _ at.k at.self i.value true w.if-core-k.true;
            few = w.add_child.ensures.few;
          })
      | else-core-k w ↦ rw w.self-is (record { value = branched_next _ _ _ _ _ _ at.k at.self i.value false w.if-core-k.false; few = i.few })
    ]

pub returns-clause-value : goal.returns-clause-value
returns-clause-value c =
    c.loop-k.invariant.value
    ∙ ap (branched c.args.system.rules.now c.args.cores.now c.args.limit c.args.set.now (marked c.args.core.now) c.args.self.now)
    (le_antisymm c.loop-k.auto.k-end c.loop-k-test.false)
