-- A rule that stays is written behind those before it. Assumes nothing.
use Rattle.std.proofs.Common.{◌∙◌, sym, arith}
use Rattle.joining.proofs.RenamingLaws.{renamed_none, renamed_room, renamed_in, renamed_out}
use Rattle.joining.proofs.joined_rules.Goals as goal
use Rattle.joining.proofs.joined_rules.Goals.{then-not-is_between, else-not-is_between}

pub loop-rule-init : goal.loop-rule-init
loop-rule-init c = let e = c.default-joined.ensures in renamed_none _ _ _ c.default-joined.result e.0 e.1.0 e.1.1

pub bounds-joined-count : goal.bounds-joined-count
bounds-joined-count c = let at = c.loop-rule in renamed_room _ _ _ at.rule-index _ _ at.invariant c.requires c.loop-rule-test.true

pub offset_bounds-joined-count : goal.offset_bounds-joined-count
offset_bounds-joined-count c = let below = bounds-joined-count c in omega arith

pub overflow_add-count : goal.overflow_add-count
overflow_add-count c = let below = bounds-joined-count c in omega arith

pub loop-rule-preserved : goal.loop-rule-preserved
loop-rule-preserved c =
    let at = c.loop-rule in
    elim c.if-not-is_between.branch [
      | then-not-is_between w ↦
          rw (w.joined-is, w.count-is, w.renamed.ensures)
          (renamed_in _ _ _ at.rule-index _ _ at.invariant c.requires c.loop-rule-test.true (sym c.is_between.ensures ∙ w.if-not-is_between.true))
      | else-not-is_between w ↦
          rw (w.joined-is, w.count-is)
          (renamed_out _ _ _ at.rule-index _ _ at.invariant c.requires c.loop-rule-test.true (sym c.is_between.ensures ∙ w.if-not-is_between.false))
    ]
