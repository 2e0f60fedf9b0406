-- Loops over the rules of a core, and over cores. Assumes nothing.
use Rattle.std.specs.Prelude.{Option, Some, None, ◌≡◌, refl, List, [], Bool, true, false, ◌&&◌, not, ℕ, zero, suc, ◌+◌, ◌-◌, ◌≤◌, ◌<◌, T, min, ltb, length, get_or, set}
use Rattle.std.proofs.Common.{sym, ap, ◌∙◌, add-one, le_refl, not-suc-le-zero, ext_get_or, get_or-set_same, get_or-set_other, length-set, arith, ltb→lt, lt→ltb}
use Rattle.sets.specs.Choice.{pick, true→T, false→refuted, refuted→false, and_intro, refuted→not, not→refuted}
pub use Rattle.sets.specs.Bounded.{all_none}
use Rattle.sets.specs.Bounded.{below_suc, all, all_at, all-next, greatest, Greatest, found, nothing, greatest_is, greatest_at, greatest_under}
use Rattle.sets.specs.Marks.{marked, table, length-table, get_or-table}
use Rattle.taskset.specs.Refusals.{max_rules, max_weight}
use Rattle.taskset.specs.declared.Rule.{Rule}
use Rattle.relaxation.specs.Weights.{weight_at, least_weight}
use Rattle.relaxation.specs.declared.cores.DisjointCores.{DisjointCores}
use Rattle.relaxation.specs.Disjoint.{none_listed, with_number, listed_with, included, listed_in}

-- a loop that stops where something holds: it holds at i, it does not
pub all_stops : (n i : ℕ) (p : ℕ → Bool) → i < n → p i ≡ true → false ≡ all n (λ k. not (p k))
all_stops n i p h e =
    sym (refuted→false (all n (λ k. not (p k))) (λ t. not→refuted (p i) (all_at n (λ k. not (p k)) t i h) (true→T (p i) e)))

pub all_goes : (i : ℕ) (p : ℕ → Bool) → p i ≡ false → T (all i (λ k. not (p k))) → T (all (i + 1) (λ k. not (p k)))
all_goes i p e t =
    rw (all-next i (λ k. not (p k))) (and_intro (not (p i)) (all i (λ k. not (p k))) (refuted→not (p i) (false→refuted (p i) e)) t)

-- ---- the least weight

pub least_none : (rules : List Rule) (these : ℕ → Bool) → max_weight ≡ least_weight rules 0 these
unfolding least_weight
least_none rules these = refl

pub least_small : (rules : List Rule) (these : ℕ → Bool) (n : ℕ) → least_weight rules n these ≤ max_weight
unfolding least_weight
least_small rules these zero = omega arith
least_small rules these (suc n) = let before = least_small rules these n in omega arith

pub least_next : (rules : List Rule) (these : ℕ → Bool) (n least : ℕ) → least ≡ least_weight rules n these → (b : Bool)
    → (these n && ltb (weight_at rules n) least) ≡ b → pick b (weight_at rules n) least ≡ least_weight rules (n + 1) these
unfolding least_weight
least_next rules these n least e b t = let small = least_small rules these n in rw (add-one n, ← e) (go (omega (arith, e)) (these n) b t)
  where
    go : least ≤ max_weight → (a b : Bool) → (a && ltb (weight_at rules n) least) ≡ b
        → pick b (weight_at rules n) least ≡ min least (pick a (weight_at rules n) max_weight)
    go small true true t = let less = ltb→lt (weight_at rules n) least (true→T _ t) in omega arith
    go small true false t = let more : weight_at rules n < least → ⊥ = λ h. false→refuted _ t (lt→ltb (weight_at rules n) least h) in omega arith
    go small false true t = cc
    go small false false t = omega arith

-- ---- a loop that goes down from the last one

module _ (p : ℕ → Bool) (i n : ℕ) where
  pub found_here : 0 < i → greatest n p ≡ greatest i p → p (i - 1) ≡ true → Some (i - 1) ≡ greatest n p
  found_here more same e =
      let at : suc (i - 1) ≡ i = omega arith in sym (same ∙ ap (λ (k : ℕ). greatest k p) (sym at) ∙ greatest_at (i - 1) p e)

  pub found_below : 0 < i → greatest n p ≡ greatest i p → p (i - 1) ≡ false → greatest n p ≡ greatest (i - 1) p
  found_below more same e =
      let at : suc (i - 1) ≡ i = omega arith in same ∙ ap (λ (k : ℕ). greatest k p) (sym at) ∙ greatest_under (i - 1) p e

  pub found_none : i ≤ 0 → greatest n p ≡ greatest i p → None ≡ greatest n p
  unfolding greatest
  found_none none same = let zero : i ≡ 0 = omega arith in sym (same ∙ ap (λ (k : ℕ). greatest k p) zero)

pub found_under : (p : ℕ → Bool) (n k : ℕ) → Some k ≡ greatest n p → k < n
found_under p n k e = go (greatest n p) (greatest_is n p) e
  where
    go : (r : Option ℕ) → Greatest n p r → Some k ≡ r → k < n
    go r (found j g) e = let same : k ≡ j = cc in omega (arith, same, g.below)
    go r (nothing out) e = cc

-- ---- the numbers of a core's rules, written one after another

pub record NumbersGiven (numbers : List ℕ) (core : List Bool) (number k : ℕ) (after : List ℕ) : Type 0 where
  pub long : length after ≡ max_rules
  pub done : (j : ℕ) → j < k → get_or after j 0 ≡ pick (marked core j) number (get_or numbers j 0)
  pub rest : (j : ℕ) → k ≤ j → get_or after j 0 ≡ get_or numbers j 0

module _ (numbers : List ℕ) (core : List Bool) (number : ℕ) where
  pub given_none : length numbers ≡ max_rules → NumbersGiven numbers core number 0 numbers
  given_none long = record { long = long; done = λ j h. absurd (not-suc-le-zero h); rest = λ j h. refl }

  module _ (k : ℕ) (after : List ℕ) (is : NumbersGiven numbers core number k after) (inside : k < max_rules) where
    pub given_more : (b : Bool) → marked core k ≡ b → NumbersGiven numbers core number (k + 1) (pick b (set after k number) after)
    given_more true e =
        record {
          long = length-set after k number ∙ is.long;
          done = rw (add-one k)
              (below_suc (λ j. get_or (set after k number) j 0 ≡ pick (marked core j) number (get_or numbers j 0)) k
              (λ j h. get_or-set_other after k j number 0 (λ q. omega (arith, q, h)) ∙ is.done j h)
              (rw e (get_or-set_same after k number 0 (omega (arith, is.long, inside)))));
          rest = λ j h. get_or-set_other after k j number 0 (λ q. omega (arith, q, h)) ∙ is.rest j (omega arith);
        }
    given_more false e =
        record {
          long = is.long;
          done = rw (add-one k)
              (below_suc (λ j. get_or after j 0 ≡ pick (marked core j) number (get_or numbers j 0)) k is.done (rw e (is.rest k (le_refl k))));
          rest = λ j h. is.rest j (omega arith);
        }

  pub given_done : (after : List ℕ) → NumbersGiven numbers core number max_rules after → after ≡ with_number numbers (marked core) number
  given_done after is =
      let f = λ (k : ℕ). pick (marked core k) number (get_or numbers k 0) in
      ext_get_or 0 after (table max_rules f) (is.long ∙ sym (length-table max_rules f))
      (λ j h. let inside : j < max_rules = omega (arith, h, is.long) in is.done j inside ∙ sym (get_or-table max_rules f 0 j inside))

-- ---- cores listed one after another

module _ (rules : List Rule) (sets : List (List Bool)) (kept : ℕ → Bool) where
  pub listed_none : none_listed ≡ listed_in rules sets kept 0
  unfolding listed_in
  listed_none = refl

  pub listed_next : (n : ℕ) (s : DisjointCores) → s ≡ listed_in rules sets kept n → (b : Bool) → included rules (marked (get_or sets n [])) kept ≡ b
      → pick b (listed_with rules s (marked (get_or sets n []))) s ≡ listed_in rules sets kept (n + 1)
  unfolding listed_in
  listed_next n s e b t = rw (add-one n, ← e, t) refl
