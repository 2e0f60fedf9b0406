-- Without the rule the search stays stuck, or goes on from where it got stuck: to an order, and the rule is put back, or nowhere.
-- Assumes nothing.
use Rattle.std.specs.Prelude.{◌≡◌, ℕ, ◌<◌, List, Bool, false, ◌&&◌, length, get_or, set}
use Rattle.std.proofs.Common.{sym, ◌∙◌, subst, arith}
use Rattle.std.proofs.lemmas.List.{set-set, set-get_or}
use Rattle.sets.specs.Choice.{false→refuted, and_intro}
use Rattle.sets.specs.Marks.{marked}
use Rattle.taskset.specs.declared.system.System.{System}
use Rattle.taskset.specs.Refusals.{max_rules}
use Rattle.taskset.specs.Model.{rule_at}
use Rattle.taskset.specs.Views.{lists_of}
use Rattle.assignment.specs.declared.Search.{Search}
use Rattle.assignment.specs.Audsley.{Problem, feasible, problem, bare}
use Rattle.assignment.specs.Decision.{Lawful}
use Rattle.assignment.proofs.Preemptive.{lawful}
use Rattle.assignment.specs.Search.{Searched, Ended, Known}
use Rattle.verdict.specs.declared.Cut.{Cut}
use Rattle.verdict.specs.Core.{tried}
use Rattle.verdict.specs.Cut.{Cutting}
use Rattle.verdict.specs.Cutting.{cut_searched, cut_spared, cut_stays, cut_goes}
use Rattle.verdict.proofs.Cut.try_rule.Goals as goal

module _ (system : System) (cut : Cut) (k : ℕ) (here : k < length system.rules.now)
    (cutting : Cutting (problem (lists_of system)) cut) where
  abbrev p : Problem
  p = problem (lists_of system)

  within : k < max_rules
  within = omega (arith, system.sound.few_rules)

  fair : Lawful p
  fair = lawful (lists_of system) system.sound

  abbrev rest : (ℕ → Bool)
  rest = tried (feasible p) (marked cut.active) k

  searched : Searched p (marked (set cut.active k false)) cut.stuck
  searched = cut_searched p fair cut cutting k within

  spared : (get_or cut.stuck.left (rule_at system.rules.now k).higher.0 false
      && get_or cut.stuck.left (rule_at system.rules.now k).lower.0 false)
      ≡ false
      → (marked (set cut.active k false) ≡ rest)
      × Cutting p (record { active = set cut.active k false; stuck = cut.stuck; known = cut.known; other = cut.other })
  spared apart = cut_spared p fair cut cutting k within (λ u v. false→refuted _ apart (and_intro _ _ u v))

  module _ (s : Search) (ended : Ended p (marked (set cut.active k false)) s) where
    -- the rule's own mark is put back
    back : s.free ≡ 0
        → let marks = set (set cut.active k false) k (get_or cut.active k false) in
        (marked marks ≡ rest) × Cutting p (record { active = marks; stuck = cut.stuck; known = cut.known; other = s })
    back full =
        let same = set-set cut.active k false (get_or cut.active k false) ∙ set-get_or cut.active k false in
        subst
        (λ (marks : List Bool). (marked marks ≡ rest)
        × Cutting p (record { active = marks; stuck = cut.stuck; known = cut.known; other = s }))
        (sym same) (cut_stays p fair cut cutting k within s ended full)

    out : (s.free ≡ 0 → ⊥) → Known (bare system.tasks.now) (marked s.left) (marked cut.known)
        → (marked (set cut.active k false) ≡ rest)
        × Cutting p (record { active = set cut.active k false; stuck = s; known = cut.known; other = cut.other })
    out = cut_goes p fair cut cutting k within s ended

pub returns-then-not-self-rule : goal.returns-then-not-self-rule
returns-then-not-self-rule c =
    let w = spared c.args.system c.args.self.now c.args.k c.requires.k_in_bounds c.requires.cuts c.if-not-self-rule.true in
    record { active = w.0; cutting = w.1 }

pub fill_levels-tried-requires-clause-searched : goal.fill_levels-tried-requires-clause-searched
fill_levels-tried-requires-clause-searched c = searched c.args.system c.args.self.now c.args.k c.requires.k_in_bounds c.requires.cuts

pub returns-then-tried-eq0 : goal.returns-then-tried-eq0
returns-then-tried-eq0 c =
    let tried = c.fill_levels-tried in
    let w =
    back c.args.system c.args.self.now c.args.k c.requires.k_in_bounds c.requires.cuts tried.result tried.ensures.ended
    c.if-tried-eq0.true in
    record { active = w.0; cutting = w.1 }

pub returns : goal.returns
returns c =
    let tried = c.fill_levels-tried in
    let w =
    out c.args.system c.args.self.now c.args.k c.requires.k_in_bounds c.requires.cuts tried.result tried.ensures.ended
    c.if-tried-eq0.false tried.ensures.helps.known in
    record { active = w.0; cutting = w.1 }
