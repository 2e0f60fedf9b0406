-- A turn writes one member more. Assumes nothing.
use Rattle.std.proofs.Common.{◌∙◌, arith, refl, length-set}
use Rattle.sets.specs.Numbered.{shifted_numbered}
use Rattle.taskset.specs.Refusals.{max_rules}
use Rattle.subsets.specs.Subsets.{short}
use Rattle.subsets.proofs.MarksLaws.{members_none, members_next, members_all}
use Rattle.subsets.proofs.marks.Goals as goal

pub loop-k-init : goal.loop-k-init
loop-k-init c = record { long = refl; members = members_none max_rules c.args.set }

pub loop-k-preserved : goal.loop-k-preserved
loop-k-preserved c =
    let at = c.loop-k in
    record {
      long = length-set at.marks _ _ ∙ at.invariant.long;
      members = members_next at.marks at.k c.args.set _ (omega (arith, at.invariant.long)) (shifted_numbered c.args.set at.k) at.invariant.members;
    }

pub returns : goal.returns
returns c = c.loop-k.invariant.members ∙ members_all short c.loop-k.k c.args.set c.requires (omega (arith, c.loop-k-test.false))
