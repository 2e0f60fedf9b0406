-- A set is taken where it has an order and costs less than the one before. Assumes nothing.
use Rattle.std.proofs.Common.{◌∙◌, ap, sym, arith, length}
use Rattle.std.proofs.lemmas.Nat.{pow_pos}
use Rattle.subsets.proofs.SubsetsLaws.{set-lt, all_seen, set_seen}
use Rattle.taskset.specs.Views.{lists_of}
use Rattle.assignment.specs.Audsley.{problem}
use Rattle.subsets.specs.Subsets.{feasible_set}
use Rattle.relaxation.specs.Weights.{cost_of}
use Rattle.relaxation.specs.Table.{cheapest}
use Rattle.relaxation.proofs.TableSteps.{cheapest_none, cheapest-lt, cheapest_unsolved, cheapest_stays, cheapest_taken}
use Rattle.relaxation.proofs.table.cheapest.Goals as goal
use Rattle.relaxation.proofs.table.cheapest.Goals.{then-feasible-set+then-cost-least, then-feasible-set+else-cost-least, else-feasible-set}

pub loop-set-init : goal.loop-set-init
loop-set-init c =
    cheapest_none (problem (lists_of c.args.system)) c.cost_of-least.result
    (c.cost_of-least.ensures.value ∙ ap (cost_of c.args.system.rules.now) c.marks.ensures)

pub bounds-feasible-set : goal.bounds-feasible-set
bounds-feasible-set c = set-lt _ c.requires.few c.loop-set.set c.loop-set-test.true

pub loop-set-preserved : goal.loop-set-preserved
loop-set-preserved c =
    let at = c.loop-set in
    let p = problem (lists_of c.args.system) in
    let known = c.requires.table at.set (set_seen _ c.requires.few at.set c.loop-set-test.true) in
    elim c.if-feasible-set.branch [
      | then-feasible-set+then-cost-least w ↦
          rw (w.best-is, w.least-is)
          (cheapest_taken p at.set at.best at.least at.invariant (sym known ∙ w.if-feasible-set.true) _
          (w.cost_of-cost.ensures.value ∙ ap (cost_of c.args.system.rules.now) w.marks-then-feasible-set.ensures) w.if-cost-least.true)
      | then-feasible-set+else-cost-least w ↦
          rw (w.best-is, w.least-is)
          (cheapest_stays p at.set at.best at.least at.invariant (sym known ∙ w.if-feasible-set.true) _
          (w.cost_of-cost.ensures.value ∙ ap (cost_of c.args.system.rules.now) w.marks-then-feasible-set.ensures) w.if-cost-least.false)
      | else-feasible-set w ↦
          rw (w.best-is, w.least-is) (cheapest_unsolved p at.set at.best at.least at.invariant (sym known ∙ w.if-feasible-set.false))
    ]

pub returns-clause-value : goal.returns-clause-value
returns-clause-value c =
    c.loop-set.invariant.is
    ∙ ap (cheapest (problem (lists_of c.args.system)) (feasible_set (problem (lists_of c.args.system)))) (all_seen _ c.requires.few c.loop-set.set c.loop-set.auto.set-end c.loop-set-test.false)

pub returns-clause-in_bounds : goal.returns-clause-in_bounds
returns-clause-in_bounds c =
    let all = all_seen _ c.requires.few c.loop-set.set c.loop-set.auto.set-end c.loop-set-test.false in
    let some = pow_pos (length c.args.system.rules.now) in
    rw c.loop-set.invariant.is (cheapest-lt (problem (lists_of c.args.system)) c.loop-set.set _ (omega (arith, all)) (omega (arith, some)))
