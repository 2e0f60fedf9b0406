-- A turn takes one rule more. Assumes nothing.
use Rattle.std.proofs.Common.{length-set, arith, ◌∙◌}
use Rattle.assignment.specs.Ready.{ready_turn}
use Rattle.assignment.proofs.ready.Goals as goal

pub loop-k-preserved : goal.loop-k-preserved
loop-k-preserved c =
    let at = c.loop-k in
    record {
      long = length-set at.ready _ _ ∙ at.invariant.long;
      left_ready =
          ready_turn at.ready at.k c.args.rules.now _ _
          (omega (arith, (c.requires.each at.k (omega arith)).higher, at.invariant.long)) at.invariant.left_ready;
    }
