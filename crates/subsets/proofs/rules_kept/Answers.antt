-- Rule after rule, one more of those that the order keeps. Assumes nothing.
use Rattle.std.proofs.Common.{◌∙◌, sym, arith, length}
use Rattle.sets.specs.Numbered.{number_none}
use Rattle.subsets.specs.Found.{order_of}
use Rattle.subsets.proofs.FoundLaws.{kept-fits, kept-more, kept_same}
use Rattle.subsets.proofs.rules_kept.Goals as goal
use Rattle.subsets.proofs.rules_kept.Goals.{then-levels-rule, else-levels-rule}

pub loop-k-init : goal.loop-k-init
loop-k-init c = sym (number_none _)

pub overflow_add-set : goal.overflow_add-set
overflow_add-set c =
    let at = c.loop-k in
    let n = length c.args.system.tasks.now in
    omega (
      arith,
      kept-fits n c.args.system.rules.now (order_of n c.args.search.now) c.levels-levels.result c.levels-levels.ensures at.k at.set
          (c.args.system.sound.indices at.k c.loop-k-test.true) (omega arith) at.invariant,
    )

pub loop-k-preserved : goal.loop-k-preserved
loop-k-preserved c =
    let at = c.loop-k in
    let n = length c.args.system.tasks.now in
    let rules = c.args.system.rules.now in
    let order = order_of n c.args.search.now in
    let between = c.args.system.sound.indices at.k c.loop-k-test.true in
    elim c.if-levels-rule.branch [
      | then-levels-rule w ↦
          w.set-is
          ∙ kept-more n rules order c.levels-levels.result c.levels-levels.ensures at.k at.set between (omega arith) at.invariant
          w.if-levels-rule.true
      | else-levels-rule w ↦
          w.set-is
          ∙ kept_same n rules order c.levels-levels.result c.levels-levels.ensures at.k at.set between (omega arith) at.invariant
          w.if-levels-rule.false
    ]
