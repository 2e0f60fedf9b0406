-- The set after it holds the joined lists. Assumes nothing.
use Rattle.std.proofs.Common.{arith}
use Rattle.taskset.proofs.Sizes.{sized}
use Rattle.joining.proofs.MergingLaws.{row_small, rules_few, merged_set}
use Rattle.joining.proofs.merge.Goals as goal

pub joint-requires : goal.joint-requires
joint-requires c =
    let s = c.args.set in
    let size = sized s c.well_formed.0 in
    let one = row_small s size c.requires.made c.args.low.0 (omega (arith, c.requires.places)) in
    let other = row_small s size c.requires.made c.args.high.0 c.requires.places.1 in
    omega arith

pub rule_list-requires : goal.rule_list-requires
rule_list-requires c = let s = c.args.set in rules_few s (sized s c.well_formed.0) c.requires.made

pub returns : goal.returns
returns c =
    let s = c.args.set in
    let e = c.joined_rules-count.ensures in
    merged_set s (sized s c.well_formed.0) c.requires.made c.args.low.0 c.args.high.0 c.requires.places.0 c.requires.places.1
    c.joint.result c.joint.ensures _ c.without_row-set.ensures c.joined_rules-count.result (rw c.rule_list.ensures at e.rules) (rw c.rule_list.ensures at e.count)
