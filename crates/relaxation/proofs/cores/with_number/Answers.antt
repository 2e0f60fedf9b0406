-- Every rule is looked at. Assumes nothing.
use Rattle.std.proofs.Common.{true, false, sym, subst, le_antisymm, rules, List, ℕ, ◌+◌}
use Rattle.relaxation.proofs.DisjointSteps.{NumbersGiven, given_none, given_more, given_done}
use Rattle.relaxation.proofs.cores.with_number.Goals as goal
use Rattle.relaxation.proofs.cores.with_number.Goals.{then-core-k, else-core-k}

pub loop-k-init : goal.loop-k-init
loop-k-init c = given_none c.args.numbers c.args.core.now c.args.number (search rules)

pub loop-k-preserved : goal.loop-k-preserved
loop-k-preserved c =
    let at = c.loop-k in
    let After = λ (xs : List ℕ). NumbersGiven c.args.numbers c.args.core.now c.args.number (at.k + 1) xs in
    elim c.if-core-k.branch [
      | then-core-k w ↦ subst After (sym w.after-is) (given_more _ _ _ at.k at.after at.invariant c.loop-k-test.true true w.if-core-k.true)
      | else-core-k w ↦ subst After (sym w.after-is) (given_more _ _ _ at.k at.after at.invariant c.loop-k-test.true false w.if-core-k.false)
    ]

pub returns : goal.returns
returns c =
    let at = c.loop-k in
    given_done _ _ _ _
    (subst (λ (k : ℕ). NumbersGiven c.args.numbers c.args.core.now c.args.number k at.after) (le_antisymm at.auto.k-end c.loop-k-test.false) at.invariant)
