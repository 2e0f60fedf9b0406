-- What is left of an infeasible set of rules when each was tried, over any test that fewer rules can't break: it is infeasible,
-- while without any one of its rules it is feasible; and it is empty exactly where no rules at all are infeasible. Assumes nothing.
use Rattle.std.specs.Prelude.{◌≡◌, Bool, ◌↔◌}
use Rattle.std.proofs.Math.Path.{refl, subst, fun_ext}
use Rattle.std.proofs.Common.{sym, arith, not-suc-le-zero, le_of_suc-le-suc, eq-or-lt_of_le}
use Rattle.std.proofs.Math.Bool.{true, false}
use Rattle.std.proofs.Math.ListN.{length}
use Rattle.std.proofs.Math.Logic.{⊎_elim}
use Prim.Native.Nat.{ℕ, zero, suc, ◌≤◌, ◌<◌}
use Rattle.std.proofs.Math.Dec.{T, ltb→lt}
use Rattle.sets.specs.Marks.{first}
use Rattle.sets.specs.Choice.{pick, true→T, false→refuted, refuted→false}
use Rattle.sets.specs.Bounded.{Subset, without, without_still, without_other}
use Rattle.assignment.specs.Audsley.{Problem, feasible}
use Rattle.assignment.specs.Cores.{IsCore, rules_in}
use Rattle.assignment.specs.Decision.{Lawful, feasible_fewer}
use Rattle.assignment.proofs.CoreOrders.{rules_in_of, rules_in_below, rules_in_was}
use Rattle.verdict.specs.Core.{tried, cut_of, by_place}

-- the first m rules are below m, and each has a turn by its place
pub first_below : (m j : ℕ) → T (first m j) → j < m
first_below m j = ltb→lt j m

-- each rule of a set has one of the first m turns
abbrev pub EachTurn : (ℕ → ℕ) → (ℕ → Bool) → ℕ → Type 0
EachTurn turn start m = (j : ℕ) → T (start j) → (i : ℕ) × (i < m) × (turn i ≡ j)

pub place_turn : (m : ℕ) → EachTurn by_place (first m) m
place_turn m j t = (j, first_below m j t, refl)

module _ (feasible : (ℕ → Bool) → Bool) (turn : ℕ → ℕ) (start : ℕ → Bool) where
  abbrev stay : ℕ → ℕ → Bool
  stay = cut_of feasible turn start

  -- what holds where a rule stays, and where it goes, holds after it was tried
  by_trial : (P : (ℕ → Bool) → Type 0) (active : ℕ → Bool) (k : ℕ) → (T (feasible (without active k)) → P active)
      → ((T (feasible (without active k)) → ⊥) → P (without active k)) → P (tried feasible active k)
  unfolding tried
  by_trial P active k stays goes = go (feasible (without active k)) refl
    where
      go : (b : Bool) → feasible (without active k) ≡ b → P (pick b active (without active k))
      go true e = stays (true→T (feasible (without active k)) e)
      go false e = goes (false→refuted (feasible (without active k)) e)

  stay_shrinks : (n j : ℕ) → T (stay (suc n) j) → T (stay n j)
  unfolding cut_of
  stay_shrinks n j =
      by_trial (λ s. T (s j) → T (stay n j)) (stay n) (turn n) (λ f t. t) (λ f t. (without_still (stay n) (turn n) j t).0)

  -- what is left is part of the set
  pub cut_rules : (n j : ℕ) → T (stay n j) → T (start j)
  unfolding cut_of
  cut_rules zero j t = t
  cut_rules (suc n) j t = cut_rules n j (stay_shrinks n j t)

  -- and infeasible, where the set is
  pub cut_infeasible : (n : ℕ) → (T (feasible start) → ⊥) → T (feasible (stay n)) → ⊥
  unfolding cut_of
  cut_infeasible zero whole = whole
  cut_infeasible (suc n) whole =
      by_trial (λ s. T (feasible s) → ⊥) (stay n) (turn n) (λ f. cut_infeasible n whole) (λ f. f)

  -- so it has none from where on the set has none
  pub cut_beyond : (n m : ℕ) → ((j : ℕ) → T (start j) → j < m) → (k : ℕ) → m ≤ k → stay n k ≡ false
  cut_beyond n m inside k h = refuted→false (stay n k) (λ t. omega (arith, h, inside k (cut_rules n k t)))

  module _ (m : ℕ) (antitone : (B A : ℕ → Bool) → Subset m B A → T (feasible A) → T (feasible B)) where
    -- a rule that stayed is needed, whatever went later
    stay_needed : (n i : ℕ) → i < n → T (stay n (turn i)) → T (feasible (without (stay n) (turn i)))
    unfolding cut_of
    stay_needed zero i h = absurd (not-suc-le-zero h)
    stay_needed (suc n) i h = ⊎_elim now (earlier (stay_needed n i)) (eq-or-lt_of_le (le_of_suc-le-suc h))
      where
        now : i ≡ n → T (stay (suc n) (turn i)) → T (feasible (without (stay (suc n)) (turn i)))
        now e =
            subst (λ (q : ℕ). T (stay (suc n) (turn q)) → T (feasible (without (stay (suc n)) (turn q)))) (sym e)
            (by_trial (λ s. T (s (turn n)) → T (feasible (without s (turn n)))) (stay n) (turn n) (λ f t. f)
            (λ f t. absurd ((without_still (stay n) (turn n) (turn n) t).1 refl)))

        earlier : (i < n → T (stay n (turn i)) → T (feasible (without (stay n) (turn i)))) → i < n → T (stay (suc n) (turn i))
            → T (feasible (without (stay (suc n)) (turn i)))
        earlier before l t =
            antitone (without (stay (suc n)) (turn i)) (without (stay n) (turn i))
            (λ j h s. let w = without_still (stay (suc n)) (turn i) j s in without_other (stay n) (turn i) j w.1 (stay_shrinks n j w.0))
            (before l (stay_shrinks n (turn i) t))

    -- with all turns taken
    module _ (each : EachTurn turn start m) where
      abbrev left : ℕ → Bool
      left = stay m

      pub cut_needed : (j : ℕ) → T (left j) → T (feasible (without left j))
      cut_needed j t =
          let i = each j (cut_rules m j t) in
          subst (λ (q : ℕ). T (left q) → T (feasible (without left q))) i.2 (stay_needed m i.0 i.1) t

      pub cut_empty : (T (feasible start) → ⊥) → ((j : ℕ) → T (left j) → ⊥) ↔ (T (feasible (λ j. false)) → ⊥)
      cut_empty whole = (
        λ none f. cut_infeasible m whole (antitone left (λ j. false) (λ j h t. none j t) f),
        λ hopeless j t. hopeless (antitone (λ j. false) (without left j) (λ i h s. absurd s) (cut_needed j t)),
      )

      -- then there is nothing to try
      pub cut_hopeless : (T (feasible (λ j. false)) → ⊥) → (λ j. false) ≡ left
      cut_hopeless hopeless =
          let whole : T (feasible start) → ⊥ = λ f. hopeless (antitone (λ j. false) start (λ j h t. absurd t) f) in
          fun_ext (λ j. sym (refuted→false (left j) ((cut_empty whole).1 hopeless j)))

-- ---- of a problem

module _ (p : Problem) (lawful : Lawful p) where
  -- what is left of a set that has no order, when each rule was tried, is a core
  pub cut_is_core : (turn : ℕ → ℕ) (start : ℕ → Bool) → ((k : ℕ) → T (start k) → k < length p.rules)
      → EachTurn turn start (length p.rules) → (T (feasible p start) → ⊥) → IsCore p (cut_of (feasible p) turn start (length p.rules))
  cut_is_core turn start inside each hopeless =
      record {
        clash = cut_infeasible (feasible p) turn start (length p.rules) hopeless;
        needed = cut_needed (feasible p) turn start (length p.rules) (λ B A fewer. feasible_fewer p B A fewer lawful) each;
        inside = λ k t. inside k (cut_rules (feasible p) turn start (length p.rules) k t);
      }

  -- so every set that has none contains one
  pub core_within : (K : ℕ → Bool) → (T (feasible p K) → ⊥) → (A : ℕ → Bool) × IsCore p A × ((k : ℕ) → T (A k) → T (K k))
  core_within K hopeless =
      let start = rules_in p K in
      let inside : (k : ℕ) → T (start k) → k < length p.rules = rules_in_below p K in (
        cut_of (feasible p) by_place start (length p.rules),
        cut_is_core by_place start inside (λ j t. (j, inside j t, refl))
            (λ t. hopeless (feasible_fewer p K start (rules_in_of p K) lawful t)),
        λ k t. rules_in_was p K k (cut_rules (feasible p) by_place start (length p.rules) k t),
      )
