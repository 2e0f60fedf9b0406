-- Every rule that is not kept costs its weight. Assumes nothing.
use Rattle.std.proofs.Common.{◌+◌, ℕ, true, false, ◌∙◌, ap, sym, arith, le_antisymm}
use Rattle.sets.specs.Sum.{sum, sum-none}
use Rattle.sets.specs.Bounded.{others}
use Rattle.sets.specs.Marks.{marked}
use Rattle.taskset.specs.Views.{lists_of}
use Rattle.relaxation.specs.Weights.{weight_at}
use Rattle.relaxation.proofs.ExploringSteps.{cost_small, cost_next}
use Rattle.relaxation.proofs.explore.cost_of.Goals as goal
use Rattle.relaxation.proofs.explore.cost_of.Goals.{then-not-kept-k, else-not-kept-k}

pub loop-k-init : goal.loop-k-init
loop-k-init c = sym (sum-none (others (marked c.args.kept.now)) (weight_at c.args.system.rules.now))

pub overflow_add-cost : goal.overflow_add-cost
overflow_add-cost c =
    let l = lists_of c.args.system in
    let small = cost_small l c.args.system.sound (marked c.args.kept.now) c.loop-k.k c.loop-k.auto.k-end in
    let weight = (c.args.system.sound.weights c.loop-k.k c.loop-k-test.true).most in
    omega (arith, c.loop-k.invariant, small, weight)

pub loop-k-preserved : goal.loop-k-preserved
loop-k-preserved c =
    let at = c.loop-k in
    let l = lists_of c.args.system in
    elim c.if-not-kept-k.branch [
      | then-not-kept-k w ↦
          w.cost-is
          ∙ ap (λ (n : ℕ). n + weight_at c.args.system.rules.now at.k) at.invariant
          ∙ cost_next l c.args.system.sound (marked c.args.kept.now) at.k false w.if-not-kept-k.true
      | else-not-kept-k w ↦
          w.cost-is ∙ at.invariant ∙ cost_next l c.args.system.sound (marked c.args.kept.now) at.k true w.if-not-kept-k.false
    ]

pub returns-clause-value : goal.returns-clause-value
returns-clause-value c =
    c.loop-k.invariant
    ∙ ap (λ (n : ℕ). sum n (others (marked c.args.kept.now)) (weight_at c.args.system.rules.now)) (le_antisymm c.loop-k.auto.k-end c.loop-k-test.false)

pub returns-clause-most : goal.returns-clause-most
returns-clause-most c =
    omega (arith, c.loop-k.invariant, cost_small (lists_of c.args.system) c.args.system.sound (marked c.args.kept.now) c.loop-k.k c.loop-k.auto.k-end)
