-- Rule after rule, none rules the set out. Assumes nothing.
use Rattle.std.proofs.Common.{arith}
use Rattle.std.specs.Prelude.{T}
use borrow.Author.Count.{below_more}
use Rattle.sets.specs.Marks.{marked}
use Rattle.subsets.specs.Subsets.{fails_without}
use Rattle.subsets.proofs.SubsetsLaws.{bit-le, is_out, stays, stays_off, is_not_out}
use Rattle.subsets.proofs.is_ruled_out.Goals as goal
use Rattle.subsets.proofs.is_ruled_out.Goals.{else-set-k-eq1-via-then-set-k-eq1+else-not-feasible-set, else-set-k-eq1-via-else-set-k-eq1}

pub overflow_sub-set : goal.overflow_sub-set
overflow_sub-set c = bit-le (marked c.args.feasible.now) c.args.set c.loop-k.k (omega arith) c.if-set-k-eq1.true

pub returns-then-not-feasible-set : goal.returns-then-not-feasible-set
returns-then-not-feasible-set c = is_out _ c.args.set c.loop-k.k (omega arith) c.if-set-k-eq1.true c.if-not-feasible-set.true

pub loop-k-preserved : goal.loop-k-preserved
loop-k-preserved c =
    let at = c.loop-k in
    below_more (λ j. T (fails_without (marked c.args.feasible.now) c.args.set j) → ⊥) at.k at.invariant
    (elim c.else-set-k-eq1.branch [
      | else-set-k-eq1-via-then-set-k-eq1+else-not-feasible-set w ↦ stays (marked c.args.feasible.now) c.args.set at.k (omega arith) w.if-not-feasible-set.false
      | else-set-k-eq1-via-else-set-k-eq1 w ↦ stays_off (marked c.args.feasible.now) c.args.set at.k (omega arith) w.if-set-k-eq1.false
    ])

pub returns : goal.returns
returns c = is_not_out _ _ c.loop-k.k c.loop-k.invariant (omega arith)
