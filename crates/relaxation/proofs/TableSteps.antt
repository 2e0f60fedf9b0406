-- Loops over every set of the rules of a short list. Assumes nothing.
use Rattle.std.specs.Prelude.{◌≡◌, refl, Some, Bool, true, false, ◌&&◌, List, ℕ, zero, suc, ◌+◌, ◌-◌, ◌*◌, ◌%◌, ◌^◌, ◌≤◌, ◌<◌, T, ltb, length}
use Rattle.std.proofs.Common.{sym, ap, ◌∙◌, add-one, arith, le_refl, lt-ltb, le-ltb}
use Rattle.std.proofs.Math.Nat.{le_step}
use Rattle.std.proofs.lemmas.Nat.{pow_pos}
use Rattle.sets.specs.Choice.{pick, true→T, T→true, false→refuted}
use Rattle.sets.specs.Marks.{marked, length-table, get_or-table}
use Rattle.sets.specs.Numbered.{numbered, numbered_none}
use Rattle.taskset.specs.Refusals.{max_weight}
use Rattle.assignment.specs.Orders.{no_rule}
use Rattle.assignment.specs.Audsley.{Problem, feasible}
use Rattle.subsets.specs.Subsets.{short, feasible_set, core_set}
use Rattle.subsets.proofs.SubsetsLaws.{sets_shifted}
use Rattle.subsets.proofs.NumberedCores.{core_same}
use Rattle.relaxation.specs.declared.cores.DisjointCores.{DisjointCores}
use Rattle.relaxation.specs.declared.Relaxed.{Relaxed}
use Rattle.relaxation.specs.Weights.{cost_of}
use Rattle.relaxation.specs.Disjoint.{none_listed, listed_with}
use Rattle.relaxation.specs.Table.{answers, cost_at, cheapest, cores_listed}
use Rattle.relaxation.specs.Relaxing.{dropped_of, relaxed_by, tabled_relaxation}
use Rattle.relaxation.proofs.DisjointLaws.{listing_count, listing_small}

-- ---- the cheapest set

-- of the first n sets this one, which costs so much
pub record Cheapest (p : Problem) (n best least : ℕ) : Type 0 where
  pub is : best ≡ cheapest p (feasible_set p) n
  pub cost : least ≡ cost_at p best

module _ (p : Problem) where
  pub cheapest_none : (least : ℕ) → least ≡ cost_at p 0 → Cheapest p 0 0 least
  unfolding cheapest
  cheapest_none least e = record { is = refl; cost = e }

  -- it is one of them, or the first
  pub cheapest-lt : (n most : ℕ) → n ≤ most → 1 ≤ most → cheapest p (feasible_set p) n < most
  unfolding cheapest
  cheapest-lt zero most h some = some
  cheapest-lt (suc n) most h some =
      go (feasible_set p n && ltb (cost_at p n) (cost_at p (cheapest p (feasible_set p) n))) (cheapest-lt n most (omega (arith, h)) some)
    where
      go : (b : Bool) → cheapest p (feasible_set p) n < most → pick b n (cheapest p (feasible_set p) n) < most
      go true l = h
      go false l = l

  module _ (n best least : ℕ) (is : Cheapest p n best least) where
    next : (b : Bool) → (feasible_set p n && ltb (cost_at p n) (cost_at p best)) ≡ b → pick b n best ≡ cheapest p (feasible_set p) (n + 1)
    unfolding cheapest
    next b t = rw (add-one n, ← is.is, t) refl

    -- set n has no order; or it costs no less; or it is taken
    pub cheapest_unsolved : feasible_set p n ≡ false → Cheapest p (n + 1) best least
    cheapest_unsolved e = record { is = next false (rw e refl); cost = is.cost }

    module _ (e : feasible_set p n ≡ true) (cost : ℕ) (costs : cost ≡ cost_at p n) where
      pub cheapest_stays : least ≤ cost → Cheapest p (n + 1) best least
      cheapest_stays h = record { is = next false (rw (e, ← costs, ← is.cost) (le-ltb cost least h)); cost = is.cost }

      pub cheapest_taken : cost < least → Cheapest p (n + 1) n cost
      cheapest_taken h = record { is = next true (rw (e, ← costs, ← is.cost) (lt-ltb cost least h)); cost = costs }

  -- ---- cores by their numbers

  pub cores_none : none_listed ≡ cores_listed p (feasible_set p) 0
  unfolding cores_listed
  cores_none = refl

  pub cores_next : (n : ℕ) (s : DisjointCores) → s ≡ cores_listed p (feasible_set p) n → (b : Bool) → core_set (feasible_set p) n ≡ b
      → pick b (listed_with p.rules s (numbered n)) s ≡ cores_listed p (feasible_set p) (n + 1)
  unfolding cores_listed
  cores_next n s e b t = rw (add-one n, ← e, t) refl

  -- one set more: it is a core and listed, or nothing changes
  pub cores_listed_by : (n : ℕ) (P : DisjointCores → Type 0)
      → (T (core_set (feasible_set p) n) → P (listed_with p.rules (cores_listed p (feasible_set p) n) (numbered n)))
      → ((T (core_set (feasible_set p) n) → ⊥) → P (cores_listed p (feasible_set p) n))
      → P (cores_listed p (feasible_set p) (suc n))
  unfolding cores_listed
  cores_listed_by n P more same = go (core_set (feasible_set p) n) refl
    where
      go : (b : Bool) → core_set (feasible_set p) n ≡ b → P (pick b (listed_with p.rules (cores_listed p (feasible_set p) n) (numbered n)) (cores_listed p (feasible_set p) n))
      go true e = more (true→T _ e)
      go false e = same (false→refuted _ e)

  -- so many at most, each no heavier than there is
  pub cores_count : (n : ℕ) → (cores_listed p (feasible_set p) n).ncores ≤ n
  unfolding cores_listed
  cores_count zero = le_refl 0
  cores_count (suc n) =
      cores_listed_by n (λ s. s.ncores ≤ suc n)
      (λ t. let more = listing_count p.rules (cores_listed p (feasible_set p) n) (numbered n) in omega (arith, cores_count n, more))
      (λ f. omega (arith, cores_count n))

  pub cores_small : (n : ℕ) → (cores_listed p (feasible_set p) n).least ≤ (cores_listed p (feasible_set p) n).ncores * max_weight
  unfolding cores_listed
  cores_small zero = omega arith
  cores_small (suc n) =
      cores_listed_by n (λ s. s.least ≤ s.ncores * max_weight)
      (λ t. listing_small p.rules (cores_listed p (feasible_set p) n) (numbered n) (cores_small n)) (λ f. cores_small n)

-- ---- each set is solved once

module _ (p : Problem) where
  cheapest_same : (found : ℕ → Bool) (n : ℕ) → ((c : ℕ) → c < n → found c ≡ feasible_set p c)
      → cheapest p found n ≡ cheapest p (feasible_set p) n
  unfolding cheapest
  cheapest_same found zero same = refl
  cheapest_same found (suc n) same =
      rw (same n (le_refl (suc n)), cheapest_same found n (λ c h. same c (le_step h))) refl

  cores_same : (found : ℕ → Bool) (n : ℕ) → ((c : ℕ) → c < n → found c ≡ feasible_set p c)
      → cores_listed p found n ≡ cores_listed p (feasible_set p) n
  unfolding cores_listed
  cores_same found zero same = refl
  cores_same found (suc n) same =
      rw (core_same p found (suc n) n same (le_refl (suc n)), cores_same found n (λ c h. same c (le_step h))) refl

  answers_long : length (answers p) ≡ 2 ^ length p.rules
  unfolding answers
  answers_long =
      let rest = length-table (2 ^ length p.rules - 1) (λ c. feasible p (numbered (suc c))) in
      omega (arith, rest, pow_pos (length p.rules))

  module _ (hopeful : T (feasible p no_rule)) where
    answers_same : (c : ℕ) → c < 2 ^ length p.rules → marked (answers p) c ≡ feasible_set p c
    unfolding answers
    answers_same zero h = sym (ap (feasible p) numbered_none ∙ T→true (feasible p no_rule) hopeful)
    answers_same (suc c) h = get_or-table (2 ^ length p.rules - 1) (λ d. feasible p (numbered (suc d))) false c (omega arith)

    -- so the answer is by what each set has
    pub tabled_whole : let n = 2 ^ length p.rules in
        tabled_relaxation p
        ≡ relaxed_by p (numbered (cheapest p (feasible_set p) n)) (cost_at p (cheapest p (feasible_set p) n)) (cores_listed p (feasible_set p) n) n
    unfolding tabled_relaxation
    tabled_whole =
        rw (
          answers_long,
          cheapest_same (marked (answers p)) (2 ^ length p.rules) answers_same,
          cores_same (marked (answers p)) (2 ^ length p.rules) answers_same,
        )
        refl

-- ---- what is relaxed_by

module _ (p : Problem) (few : length p.rules ≤ short) (hopeful : T (feasible p no_rule)) where
  pub tabled_is : (best : ℕ) → best ≡ cheapest p (feasible_set p) (2 ^ length p.rules) → (kept : ℕ → Bool) → kept ≡ numbered best
      → (s : DisjointCores) → s ≡ cores_listed p (feasible_set p) (2 ^ length p.rules) → (weight : ℕ) → weight ≡ cost_of p.rules kept
      → (gone : List Bool) → gone ≡ dropped_of (length p.rules) kept
      → ◌≡◌ {A = Relaxed} (record {
        relaxation = Some (record { dropped = gone; weight = weight; floor = weight; cores = s.numbers; ncores = s.ncores });
        count = 1 * 2 ^ length p.rules % 2 ^ 64;
      }) (tabled_relaxation p)
  tabled_is best is kept these s listed weight costs gone drops =
      rw (tabled_whole p hopeful, sets_shifted (length p.rules) few, drops, costs, these, is, listed) refl
