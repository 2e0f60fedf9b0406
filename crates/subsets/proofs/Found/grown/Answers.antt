-- With one rule more it is a set of the short list too, and what an order keeps then has these rules. Assumes nothing.
use Rattle.std.proofs.Common.{arith}
use Rattle.std.proofs.lemmas.Nat.{or_lt}
use Rattle.taskset.specs.Views.{lists_of}
use Rattle.subsets.specs.Subsets.{short}
use Rattle.subsets.proofs.SubsetsLaws.{one-lt}
use Rattle.subsets.proofs.FoundLaws.{grown_next}
use Rattle.subsets.proofs.Found.grown.Goals as goal
use Rattle.subsets.proofs.Found.grown.Goals.{then-kept-k-eq0, else-kept-k-eq0}

pub try_once-requires-clause-set_in_bounds : goal.try_once-requires-clause-set_in_bounds
try_once-requires-clause-set_in_bounds c =
    or_lt short c.loop-k.kept _ c.loop-k.invariant.grown.is_feasible.in_bounds (one-lt c.loop-k.k (omega (arith, c.requires.few, c.loop-k-test.true)))

pub loop-k-preserved : goal.loop-k-preserved
loop-k-preserved c =
    let at = c.loop-k in
    elim c.if-kept-k-eq0.branch [
      | then-kept-k-eq0 w ↦
          record {
            grown = rw (w.kept-is, w.unwrap_or-kept.ensures)
                (grown_next (lists_of c.args.system) c.args.set at.kept _ at.invariant.grown w.try_once.result w.try_once.ensures.kept);
            right = rw w.self-is w.try_once.ensures.right;
          }
      | else-kept-k-eq0 w ↦ record { grown = rw w.kept-is at.invariant.grown; right = rw w.self-is at.invariant.right }
    ]
