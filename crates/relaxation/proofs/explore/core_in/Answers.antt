-- A turn is that of a rule, and after all turns the array has the core's marks. Assumes nothing.
use Rattle.std.proofs.Common.{◌-◌, ◌<◌, ◌∙◌, ap, sym, subst, rules, length, get_or, le_antisymm, ◌≡◌, ℕ, arith}
use Rattle.sets.specs.Marks.{marked, marks_table}
use Rattle.taskset.specs.Refusals.{max_rules}
use Rattle.taskset.specs.declared.system.System.{System}
use Rattle.taskset.specs.Views.{lists_of}
use Rattle.assignment.specs.Audsley.{feasible, problem}
use Rattle.verdict.specs.Core.{tried, cut_of}
use Rattle.verdict.specs.Cutting.{cut_none}
use Rattle.relaxation.specs.declared.turns.Turns.{Turns}
use Rattle.relaxation.specs.Turns.{turns_of, light_first}
use Rattle.relaxation.specs.Exploring.{core_in}
use Rattle.relaxation.proofs.EachTurn.{light_below}
use Rattle.relaxation.proofs.ExploringSteps.{cut_next, cut_absent}
use Rattle.relaxation.proofs.explore.core_in.Goals as goal
use Rattle.relaxation.proofs.explore.core_in.Goals.{then-cut-k, else-cut-k}

pub loop-n-init : goal.loop-n-init
loop-n-init c =
    let is = c.start-cut.ensures in
    record {
      so_far = ap marked is.active ∙ cut_none (feasible (problem (lists_of c.args.system))) (light_first c.args.system.rules.now) (marked c.args.kept.now);
      cutting = is.cutting;
    }

-- each turn is that of a rule
place_below : (s : System) (t : Turns) → t ≡ turns_of s.rules.now (length s.rules.now) → (n : ℕ) → n < length s.rules.now
    → get_or t.places (length s.rules.now - 1 - n) 0 < length s.rules.now
place_below s t is n h =
    subst (λ (x : Turns). get_or x.places (length s.rules.now - 1 - n) 0 < length s.rules.now) (sym is)
    (light_below s.rules.now s.sound.few_rules (λ k g. (s.sound.weights k g).least) n h)

pub bounds-cut-k : goal.bounds-cut-k
bounds-cut-k c =
    omega (arith, place_below c.args.system c.args.turns.now c.requires.turns c.loop-n.n c.loop-n-test.true, c.args.system.sound.few_rules)

pub try_rule-requires-clause-k_in_bounds : goal.try_rule-requires-clause-k_in_bounds
try_rule-requires-clause-k_in_bounds c = place_below c.args.system c.args.turns.now c.requires.turns c.loop-n.n c.loop-n-test.true

pub loop-n-preserved : goal.loop-n-preserved
loop-n-preserved c =
    let at = c.loop-n in
    let i = at.invariant in
    let rules = c.args.system.rules.now in
    let test = feasible (problem (lists_of c.args.system)) in
    let place = λ (t : Turns). get_or t.places (length rules - 1 - at.n) 0 in
    elim c.if-cut-k.branch [
      | then-cut-k w ↦
          rw w.cut-is
          (record {
            so_far =
                w.try_rule.ensures.active
                ∙ ap (λ (t : Turns). tried test (marked at.cut.active) (place t)) c.requires.turns
                ∙ cut_next test (light_first rules) (marked c.args.kept.now) at.n (marked at.cut.active) i.so_far;
            cutting = w.try_rule.ensures.cutting;
          })
      | else-cut-k w ↦
          rw w.cut-is
          (record {
            so_far = cut_absent test (light_first rules) (marked c.args.kept.now) at.n (marked at.cut.active) i.so_far
                (ap (λ (t : Turns). marked at.cut.active (place t)) (sym c.requires.turns) ∙ w.if-cut-k.false);
            cutting = i.cutting;
          })
    ]

pub returns : goal.returns
unfolding core_in
returns c =
    let at = c.loop-n in
    let test = feasible (problem (lists_of c.args.system)) in
    let whole = cut_of test (light_first c.args.system.rules.now) (marked c.args.kept.now) in
    marks_table max_rules (whole (length c.args.system.rules.now)) at.cut.active (search rules)
    (at.invariant.so_far ∙ ap whole (le_antisymm at.auto.n-end c.loop-n-test.false))
