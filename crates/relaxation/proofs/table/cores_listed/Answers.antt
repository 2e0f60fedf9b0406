-- Every core is listed, as far as it shares no rule with those before. Assumes nothing.
use Rattle.std.proofs.Common.{true, false, ◌∙◌, ap, sym, arith}
use Rattle.sets.specs.Marks.{marked}
use Rattle.taskset.specs.Views.{lists_of}
use Rattle.assignment.specs.Audsley.{problem}
use Rattle.subsets.proofs.SubsetsLaws.{set-lt, all_seen, set_seen}
use Rattle.subsets.proofs.NumberedCores.{core_same}
use Rattle.subsets.specs.Subsets.{feasible_set}
use Rattle.relaxation.specs.Disjoint.{listed_with}
use Rattle.relaxation.specs.Table.{cores_listed}
use Rattle.relaxation.proofs.TableSteps.{cores_none, cores_next, cores_count, cores_small}
use Rattle.relaxation.proofs.table.cores_listed.Goals as goal
use Rattle.relaxation.proofs.table.cores_listed.Goals.{then-is_core, else-is_core}

pub loop-set-init : goal.loop-set-init
loop-set-init c = c.none-listed.ensures ∙ cores_none (problem (lists_of c.args.system))

pub is_core-requires : goal.is_core-requires
is_core-requires c = set-lt _ c.requires.few c.loop-set.set c.loop-set-test.true

pub marks-requires : goal.marks-requires
marks-requires c = set-lt _ c.requires.few c.loop-set.set c.loop-set-test.true

pub add-requires-clause-few : goal.add-requires-clause-few
add-requires-clause-few c =
    let count = cores_count (problem (lists_of c.args.system)) c.loop-set.set in
    let inside = set-lt _ c.requires.few c.loop-set.set c.loop-set-test.true in
    rw c.loop-set.invariant (omega (arith, count, inside))

pub add-requires-clause-small : goal.add-requires-clause-small
add-requires-clause-small c = rw c.loop-set.invariant (cores_small (problem (lists_of c.args.system)) c.loop-set.set)

pub loop-set-preserved : goal.loop-set-preserved
loop-set-preserved c =
    let at = c.loop-set in
    let p = problem (lists_of c.args.system) in
    let known = core_same p (marked c.args.feasible.now) _ at.set c.requires.table (set_seen _ c.requires.few at.set c.loop-set-test.true) in
    elim c.if-is_core.branch [
      | then-is_core w ↦
          w.listed-is
          ∙ w.add.ensures
          ∙ ap (listed_with c.args.system.rules.now at.listed) w.marks.ensures
          ∙ cores_next p at.set at.listed at.invariant true (sym known ∙ sym c.is_core.ensures ∙ w.if-is_core.true)
      | else-is_core w ↦
          w.listed-is ∙ cores_next p at.set at.listed at.invariant false (sym known ∙ sym c.is_core.ensures ∙ w.if-is_core.false)
    ]

pub returns : goal.returns
returns c =
    c.loop-set.invariant
    ∙ ap (cores_listed (problem (lists_of c.args.system)) (feasible_set (problem (lists_of c.args.system)))) (all_seen _ c.requires.few c.loop-set.set c.loop-set.auto.set-end c.loop-set-test.false)
