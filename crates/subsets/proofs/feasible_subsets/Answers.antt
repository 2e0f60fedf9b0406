-- Set after set is known. Assumes nothing.
use Rattle.std.proofs.Common.{◌≡◌, ◌<◌, ◌∙◌, ap, sym, arith, length, length-set}
use Rattle.std.specs.Prelude.{not}
use Rattle.sets.specs.Choice.{true→T}
use Rattle.sets.specs.Marks.{marked}
use Rattle.sets.specs.Numbered.{numbered}
use Rattle.taskset.specs.Views.{lists_of}
use Rattle.assignment.specs.Audsley.{feasible, problem}
use Rattle.subsets.specs.Found.{RightlyFound}
use Rattle.subsets.proofs.SubsetsLaws.{all-lt, set-lt, known_next, out}
use Rattle.subsets.proofs.feasible_subsets.Goals as goal
use Rattle.subsets.proofs.feasible_subsets.Goals.{then-not-is_ruled_out, else-not-is_ruled_out}

pub look_for-requires-clause-set_in_bounds : goal.look_for-requires-clause-set_in_bounds
look_for-requires-clause-set_in_bounds c = all-lt _ c.requires

pub look_for-requires-clause-right : goal.look_for-requires-clause-right
look_for-requires-clause-right c = c.none-found.ensures (lists_of c.args.system)

pub is_ruled_out-requires : goal.is_ruled_out-requires
is_ruled_out-requires c = set-lt _ c.requires c.loop-set.set c.loop-set-test.true

pub look_for-requires-then-not-is_ruled_out-clause-set_in_bounds :
    goal.look_for-requires-then-not-is_ruled_out-clause-set_in_bounds
look_for-requires-then-not-is_ruled_out-clause-set_in_bounds c = set-lt _ c.requires c.loop-set.set c.loop-set-test.true

pub bounds-feasible-set : goal.bounds-feasible-set
bounds-feasible-set c = set-lt _ c.requires c.loop-set.set c.loop-set-test.true

pub loop-set-preserved : goal.loop-set-preserved
loop-set-preserved c =
    let at = c.loop-set in
    let l = lists_of c.args.system in
    let here : at.set < length at.feasible = omega (arith, set-lt _ c.requires at.set c.loop-set-test.true, at.invariant.long) in
    let next = elim c.if-not-is_ruled_out.branch as (λ b. RightlyFound l c.if-not-is_ruled_out.found × (c.if-not-is_ruled_out.feasible ≡ feasible (problem l) (numbered at.set))) [
      | then-not-is_ruled_out w ↦
          let e = w.look_for-then-not-is_ruled_out.ensures in
          (rw w.found-is e.right, w.feasible-is ∙ e.value)
      | else-not-is_ruled_out w ↦
          let ruled = true→T _ (sym c.is_ruled_out.ensures ∙ w.if-not-is_ruled_out.false) in (
            rw w.found-is at.invariant.right,
            w.feasible-is
                ∙ ap not w.if-not-is_ruled_out.false
                ∙ sym (out l c.args.system.sound (marked at.feasible) at.set at.invariant.known ruled),
          )
    ] in
    record {
      right = next.0;
      long = length-set at.feasible _ _ ∙ at.invariant.long;
      known = known_next (λ d. feasible (problem l) (numbered d)) at.feasible at.set _ here at.invariant.known next.1;
    }
