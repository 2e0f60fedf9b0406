-- Where every set of rules is solved by its number: the cheapest one is no cheaper than any that has an order, and the cores that are
-- listed meet every core. Assumes nothing.
use Rattle.std.specs.Prelude.{◌≡◌, refl, Bool, true, false, ◌&&◌, not, ℕ, zero, suc, ◌^◌, ◌≤◌, ◌<◌, T, ltb, length, get_or}
use Rattle.std.proofs.Common.{sym, ap, subst, ◌∙◌, ⊎_elim, le_refl, not-suc-le-zero, le_of_suc-le-suc, eq-or-lt_of_le, arith, ltb→lt, lt→ltb}
use Rattle.sets.specs.Choice.{pick, true→T, false→refuted, lt_or_le, and_intro, and_left, and_right}
use Rattle.sets.specs.Bounded.{every, others, below_suc}
use Rattle.sets.specs.Sum.{sum_same}
use Rattle.sets.specs.Numbered.{numbered, number_of, number-lt, numbered_none, numbered_number}
use Rattle.assignment.specs.Audsley.{Problem, feasible}
use Rattle.assignment.specs.Cores.{IsCore}
use Rattle.subsets.specs.Subsets.{short, feasible_set, core_set}
use Rattle.subsets.proofs.NumberedCores.{number_works, number_is, core_set_is, core_passes}
use Rattle.relaxation.specs.declared.cores.DisjointCores.{DisjointCores}
use Rattle.relaxation.specs.Weights.{weight_at, cost_of}
use Rattle.relaxation.specs.Table.{cost_at, cheapest, cores_listed}
use Rattle.relaxation.proofs.Claims.{Relaxable, ListsCores, IsFloor}
use Rattle.relaxation.proofs.DisjointLaws.{number, none_lists, listing_lists, listing_meets, listing_stays, Floors, none_floors, listing_floors, floors_floor}
use Rattle.relaxation.proofs.TableSteps.{cores_listed_by}

module _ (p : Problem) (fit : Relaxable p) (few : length p.rules ≤ short) where
  abbrev m : ℕ
  m = length p.rules

  -- ---- the cheapest

  number_cost : (A : ℕ → Bool) → cost_at p (number_of m A) ≡ cost_of p.rules A
  number_cost A =
      sum_same m (others (numbered (number_of m A))) (others A) (weight_at p.rules) (weight_at p.rules)
      (λ k h. ap not (numbered_number m A k h)) (λ k h. refl)

  first_solved : T (feasible_set p 0)
  first_solved = subst (λ (A : ℕ → Bool). T (feasible p A)) (sym numbered_none) fit.hopeful

  -- it has an order and costs less than those before
  abbrev cheaper : ℕ → Bool
  cheaper n = feasible_set p n && ltb (cost_at p n) (cost_at p (cheapest p (feasible_set p) n))

  cheapest_works : (n : ℕ) → T (feasible_set p (cheapest p (feasible_set p) n))
  unfolding cheapest
  cheapest_works zero = first_solved
  cheapest_works (suc n) = go (cheaper n) refl (cheapest_works n)
    where
      go : (b : Bool) → cheaper n ≡ b → T (feasible_set p (cheapest p (feasible_set p) n)) → T (feasible_set p (pick b n (cheapest p (feasible_set p) n)))
      go true e before = and_left (feasible_set p n) (ltb (cost_at p n) (cost_at p (cheapest p (feasible_set p) n))) (true→T (cheaper n) e)
      go false e before = before

  abbrev Least : ℕ → ℕ → Type 0
  Least best k = T (feasible_set p k) → cost_at p best ≤ cost_at p k

  cheapest_least : (n k : ℕ) → k < n → T (feasible_set p k) → cost_at p (cheapest p (feasible_set p) n) ≤ cost_at p k
  unfolding cheapest
  cheapest_least zero k h t = absurd (not-suc-le-zero h)
  cheapest_least (suc n) k h t = go (cheaper n) refl (cheapest_least n) k h t
    where
      go : (b : Bool) → cheaper n ≡ b → ((k : ℕ) → k < n → Least (cheapest p (feasible_set p) n) k) → (k : ℕ) → k < suc n
          → Least (pick b n (cheapest p (feasible_set p) n)) k
      go true e before =
          let less =
          ltb→lt (cost_at p n) (cost_at p (cheapest p (feasible_set p) n))
          (and_right (feasible_set p n) (ltb (cost_at p n) (cost_at p (cheapest p (feasible_set p) n))) (true→T (cheaper n) e)) in
          below_suc (Least n) n (λ k h t. let old = before k h t in omega (arith, less, old)) (λ t. le_refl (cost_at p n))
      go false e before =
          below_suc (Least (cheapest p (feasible_set p) n)) n before
          (λ t. ⊎_elim
          (λ l. absurd
          (false→refuted (cheaper n) e
          (and_intro (feasible_set p n) (ltb (cost_at p n) (cost_at p (cheapest p (feasible_set p) n))) t (lt→ltb (cost_at p n) (cost_at p (cheapest p (feasible_set p) n)) l))))
          (λ h. h) (lt_or_le (cost_at p n) (cost_at p (cheapest p (feasible_set p) n))))

  -- of all sets that have an order it costs least to keep this one alone
  pub cheapest_is : T (feasible_set p (cheapest p (feasible_set p) (2 ^ m)))
      × ((K : ℕ → Bool) → T (feasible p K) → cost_at p (cheapest p (feasible_set p) (2 ^ m)) ≤ cost_of p.rules K)
  cheapest_is = (
    cheapest_works (2 ^ m),
    λ K t.
        let least = cheapest_least (2 ^ m) (number_of m K) (number-lt m K) (number_works p fit.lawful few K t) in
        omega (arith, least, number_cost K),
  )

  -- ---- cores one after another

  pub cores_lists : (n : ℕ) → n ≤ 2 ^ m → ListsCores p (cores_listed p (feasible_set p) n)
  unfolding cores_listed
  cores_lists zero h = none_lists p fit
  cores_lists (suc n) h =
      let below = cores_lists n (omega (arith, h)) in
      cores_listed_by p n (ListsCores p) (λ t. listing_lists p fit (cores_listed p (feasible_set p) n) below (numbered n) (core_set_is p fit.lawful few n h t)) (λ f. below)

  cores_floors : (n : ℕ) → n ≤ 2 ^ m → Floors p every (cores_listed p (feasible_set p) n)
  unfolding cores_listed
  cores_floors zero h = none_floors p fit every
  cores_floors (suc n) h =
      let below = cores_floors n (omega (arith, h)) in
      cores_listed_by p n (Floors p every)
      (λ t. listing_floors p fit every (cores_listed p (feasible_set p) n) below (numbered n) (core_set_is p fit.lawful few n h t) (λ k l s. tt))
      (λ f. below)

  -- so no set that has an order costs less than their least weights together
  pub cores_floor : (n : ℕ) → n ≤ 2 ^ m → IsFloor p (cores_listed p (feasible_set p) n).least
  cores_floor n h = floors_floor p every (cores_listed p (feasible_set p) n) (cores_floors n h)

  -- a rule of the set is in a listed core
  abbrev Met : (ℕ → Bool) → DisjointCores → Type 0
  Met A s = (k : ℕ) × (k < m) × T (A k) × (number s k ≡ 0 → ⊥)

  met_next : (A : ℕ → Bool) (n : ℕ) → Met A (cores_listed p (feasible_set p) n) → Met A (cores_listed p (feasible_set p) (suc n))
  met_next A n (k, h, t, f) =
      cores_listed_by p n (Met A)
      (λ s. (k, h, t, λ z. f (sym (listing_stays p fit (cores_listed p (feasible_set p) n) (numbered n) k h f) ∙ z)))
      (λ g. (k, h, t, f))

  met_here : (n : ℕ) → n < 2 ^ m → T (core_set (feasible_set p) n) → Met (numbered n) (cores_listed p (feasible_set p) (suc n))
  met_here n h t =
      cores_listed_by p n (Met (numbered n))
      (λ s. listing_meets p fit (cores_listed p (feasible_set p) n) (cores_lists n (omega (arith, h))) (numbered n) (core_set_is p fit.lawful few n h t))
      (λ f. absurd (f t))

  met_from : (c : ℕ) → c < 2 ^ m → T (core_set (feasible_set p) c) → (n : ℕ) → c < n → Met (numbered c) (cores_listed p (feasible_set p) n)
  met_from c h t zero l = absurd (not-suc-le-zero l)
  met_from c h t (suc n) l =
      ⊎_elim (λ e. subst (λ (j : ℕ). Met (numbered c) (cores_listed p (feasible_set p) (suc j))) e (met_here c h t))
      (λ g. met_next (numbered c) n (met_from c h t n g))
      (eq-or-lt_of_le (le_of_suc-le-suc l))

  -- every core has a rule of one that is listed
  pub cores_meet : (A : ℕ → Bool) → IsCore p A
      → (k : ℕ) × (k < m) × T (A k) × (get_or (cores_listed p (feasible_set p) (2 ^ m)).numbers k 0 ≡ 0 → ⊥)
  cores_meet A core =
      subst (λ (B : ℕ → Bool). Met B (cores_listed p (feasible_set p) (2 ^ m))) (number_is p fit.lawful few A core.inside)
      (met_from (number_of m A) (number-lt m A) (core_passes p fit.lawful few A core) (2 ^ m) (number-lt m A))
