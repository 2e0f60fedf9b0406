-- The task at each level so far has that level. Assumes nothing.
use Rattle.std.proofs.Common.{◌<◌, ◌∙◌, arith, length, length-set}
use Rattle.subsets.specs.Found.{order_of}
use Rattle.subsets.proofs.FoundLaws.{order_at, order-lt, order_length, level_next, level_rank}
use Rattle.subsets.proofs.levels.Goals as goal

pub offset_bounds-levels-search : goal.offset_bounds-levels-search
offset_bounds-levels-search c = omega (arith, order-lt _ c.args.search.now c.loop-level.level c.requires.is_order c.loop-level-test.true)

pub bounds-levels-search : goal.bounds-levels-search
bounds-levels-search c = omega (arith, order-lt _ c.args.search.now c.loop-level.level c.requires.is_order c.loop-level-test.true)

pub loop-level-preserved : goal.loop-level-preserved
loop-level-preserved c =
    let at = c.loop-level in
    let n = c.args.tasks in
    let s = c.args.search.now in
    let inside : at.level < length (order_of n s) = omega (arith, order_length n s, c.loop-level-test.true) in
    let one = order-lt n s at.level c.requires.is_order c.loop-level-test.true in
    record {
      long = length-set at.levels _ _ ∙ at.invariant.long;
      placed = level_next (order_of n s) c.requires.is_order.once at.levels at.level _ inside
          (order_at n s at.level c.loop-level-test.true) (omega (arith, one, at.invariant.long)) at.invariant.placed;
    }

pub returns : goal.returns
returns c =
    let n = c.args.tasks in
    let s = c.args.search.now in
    level_rank n (order_of n s) c.loop-level.levels c.requires.is_order
    (λ k h. c.loop-level.invariant.placed k (omega (arith, h, order_length n s, c.loop-level-test.false)))
