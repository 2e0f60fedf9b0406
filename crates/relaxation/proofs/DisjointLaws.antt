-- Of cores that share no rule: those that are listed are cores, and their least weights come to no more than what any set that has an
-- order costs beyond the rules that are given up already. Assumes nothing.
use Rattle.std.specs.Prelude.{◌≡◌, refl, Bool, true, false, ◌&&◌, not, List, [], ◌⊎◌, ℕ, zero, suc, ◌+◌, ◌*◌, ◌≤◌, ◌<◌, T, min, eqb, length, get_or, replicate}
use Rattle.std.proofs.Common.{sym, ap, subst, ◌∙◌, inl, inr, ⊎_elim, le_refl, not-suc-le-zero, eq-zero-or-pos, arith, eqb→eq, eq-eqb}
use Rattle.std.proofs.Math.Nat.{le_step}
use Rattle.std.proofs.Math.Path.{fun_ext}
use Rattle.std.proofs.Math.ListN.{get_or-eq_default}
use Rattle.std.proofs.lemmas.List.{length-replicate, get_or-replicate}
use Rattle.sets.specs.Choice.{pick, T→true, true→T, refuted→false, not→refuted, refuted→not, decided, lt_or_le, and_intro, and_left, and_right}
use Rattle.sets.specs.Bounded.{every, others, Subset, all, all_at, all_of, below_suc, count, count-some, count_pos, subset_or}
use Rattle.sets.specs.Sum.{sum, sum-none, sum_more, sum_mono, sum_less, sum_cong, sum_apart}
use Rattle.sets.specs.Marks.{marked, first, table, length-table, get_or-table}
use Rattle.taskset.specs.declared.Rule.{Rule}
use Rattle.taskset.specs.Refusals.{max_rules, max_weight}
use Rattle.assignment.specs.Orders.{no_rule}
use Rattle.assignment.specs.Audsley.{Problem, feasible}
use Rattle.assignment.specs.Cores.{IsCore}
use Rattle.assignment.specs.Decision.{feasible_fewer}
use Rattle.relaxation.specs.declared.cores.DisjointCores.{DisjointCores}
use Rattle.relaxation.specs.declared.cores.Cores.{Cores}
use Rattle.relaxation.specs.Weights.{weight_at, cost_of, least_weight}
use Rattle.relaxation.specs.Disjoint.{none_listed, fresh_at, listed_with, included, listed_in, core_at}
use Rattle.relaxation.specs.Relaxes.{in_core}
use Rattle.relaxation.proofs.Claims.{Relaxable, Remembers, ListsCores, IsFloor}
use Rattle.relaxation.proofs.DisjointSteps.{least_small}

-- ---- the least weight of some rules

module _ (rules : List Rule) (A : ℕ → Bool) where
  -- no rule of the set weighs less
  least_weight-le : (n k : ℕ) → k < n → T (A k) → least_weight rules n A ≤ weight_at rules k
  unfolding least_weight
  least_weight-le zero k h t = absurd (not-suc-le-zero h)
  least_weight-le (suc n) k h t =
      below_suc
      (λ j. T (A j) → min (least_weight rules n A) (pick (A n) (weight_at rules n) max_weight) ≤ weight_at rules j)
      n
      (λ j l s. let below = least_weight-le n j l s in omega (arith, below))
      (λ s. rw (T→true (A n) s) (omega arith))
      k h t

-- ---- a core is listed, or nothing changes

-- a test that passes unless one passes and another does not
unless : (a b : Bool) → T (not (a && not b)) → T a → T b
unless true true t s = tt
unless true false t s = absurd t
unless false b t s = absurd s

unless_of : (a b : Bool) → (T a → T b) → T (not (a && not b))
unless_of true true f = tt
unless_of true false f = f tt
unless_of false b f = tt

unless_not : (a b : Bool) → (T (not (a && not b)) → ⊥) → T a × (T b → ⊥)
unless_not true true f = absurd (f tt)
unless_not true false f = (tt, λ t. t)
unless_not false b f = absurd (f tt)

-- where not all pass, one does not
all_missed : (n : ℕ) (p : ℕ → Bool) → (T (all n p) → ⊥) → (k : ℕ) × (k < n) × (T (p k) → ⊥)
unfolding all
all_missed zero p f = absurd (f tt)
all_missed (suc n) p f =
    ⊎_elim
    (λ t. let r = all_missed n p (λ s. f (and_intro (p n) (all n p) t s)) in (r.0, le_step r.1, r.2))
    (λ g. (n, le_refl (suc n), g))
    (decided (p n))

-- the number of the listed core that a rule is in, 0 where it is in none
abbrev pub number : DisjointCores → ℕ → ℕ
number s k = get_or s.numbers k 0

abbrev entry : List ℕ → ℕ → ℕ
entry ns k = get_or ns k 0

-- past its end a list of numbers has 0
get_or-past : (ns : List ℕ) (n k : ℕ) → length ns ≡ n → n ≤ k → entry ns k ≡ 0
get_or-past ns n k e h = let past : length ns ≤ k = omega (arith, e, h) in get_or-eq_default ns 0 past

-- at first none has one
zeros_at : (n k : ℕ) → entry (replicate n 0) k ≡ 0
zeros_at n k = ⊎_elim (λ l. get_or-replicate {A = ℕ} n k 0 0 l) (get_or-past (replicate n 0) n k (length-replicate n 0)) (lt_or_le k n)

no_number : (k : ℕ) → number none_listed k ≡ 0
no_number k = zeros_at max_rules k

module _ (rules : List Rule) (s : DisjointCores) (core : ℕ → Bool) where
  -- with this core
  abbrev with_core : DisjointCores
  with_core =
      record {
        numbers = table max_rules (λ k. pick (core k) (s.ncores + 1) (get_or s.numbers k 0));
        ncores = s.ncores + 1;
        least = s.least + least_weight rules (length rules) core;
      }

  -- no rule of the core has a number; or one has
  abbrev Apart : Type 0
  Apart = (k : ℕ) → k < length rules → T (core k) → number s k ≡ 0

  abbrev Shares : Type 0
  Shares = (k : ℕ) × (k < length rules) × T (core k) × (number s k ≡ 0 → ⊥)

  fresh_apart : all (length rules) (fresh_at s core) ≡ true → Apart
  fresh_apart e k h t =
      eqb→eq (number s k) 0
      (unless (core k) (eqb (number s k) 0) (all_at (length rules) (fresh_at s core) (true→T _ e) k h) t)

  listed_shares : all (length rules) (fresh_at s core) ≡ false → Shares
  listed_shares e =
      let r = all_missed (length rules) (fresh_at s core) (λ t. absurd (rw e at t)) in
      let u = unless_not (core r.0) (eqb (number s r.0) 0) r.2 in
      (r.0, r.1, u.0, λ z. u.1 (true→T _ (eq-eqb (number s r.0) 0 z)))

  -- what holds of either holds of what is listed then
  listing_by : (P : DisjointCores → Type 0) → (Apart → P with_core) → (Shares → P s) → P (listed_with rules s core)
  unfolding listed_with
  listing_by P listed same = go (all (length rules) (fresh_at s core)) refl
    where
      go : (b : Bool) → all (length rules) (fresh_at s core) ≡ b → P (pick b with_core s)
      go true e = listed (fresh_apart e)
      go false e = same (listed_shares e)

  -- its rules get the next number, and the others keep theirs
  number_with : (k : ℕ) → k < max_rules → number with_core k ≡ pick (core k) (s.ncores + 1) (number s k)
  number_with k h = get_or-table max_rules (λ k. pick (core k) (s.ncores + 1) (get_or s.numbers k 0)) 0 k h

  -- one more at most, and each weighs no more than there is
  listing_more : s.ncores ≤ (listed_with rules s core).ncores
  listing_more = listing_by (λ r. s.ncores ≤ r.ncores) (λ f. omega arith) (λ f. le_refl s.ncores)

  pub listing_count : (listed_with rules s core).ncores ≤ s.ncores + 1
  listing_count = listing_by (λ r. r.ncores ≤ s.ncores + 1) (λ f. le_refl (s.ncores + 1)) (λ f. omega arith)

  pub listing_small : s.least ≤ s.ncores * max_weight → (listed_with rules s core).least ≤ (listed_with rules s core).ncores * max_weight
  listing_small h =
      listing_by (λ r. r.least ≤ r.ncores * max_weight)
      (λ f. let most = least_small rules core (length rules) in omega (arith, most, h))
      (λ f. h)

-- ---- of some cores those that are kept whole, one after another

module _ (rules : List Rule) where
  -- the test says what the words say
  pub included-subset : (core kept : ℕ → Bool) → included rules core kept ≡ true → Subset (length rules) core kept
  unfolding included
  included-subset core kept e k h t =
      unless (core k) (kept k) (all_at (length rules) (λ k. not (core k && not (kept k))) (true→T _ e) k h) t

  included_of : (core kept : ℕ → Bool) → Subset (length rules) core kept → included rules core kept ≡ true
  unfolding included
  included_of core kept w =
      T→true _ (all_of (length rules) (λ k. not (core k && not (kept k))) (λ k h. unless_of (core k) (kept k) (w k h)))

  module _ (sets : List (List Bool)) (kept : ℕ → Bool) where
    -- one core more: it is listed, or it is not kept whole and nothing changes
    listed_in_by : (n : ℕ) (P : DisjointCores → Type 0)
        → (Subset (length rules) (marked (get_or sets n [])) kept → P (listed_with rules (listed_in rules sets kept n) (marked (get_or sets n []))))
        → P (listed_in rules sets kept n)
        → P (listed_in rules sets kept (suc n))
    unfolding listed_in
    listed_in_by n P more same = go (included rules (marked (get_or sets n [])) kept) refl
      where
        go : (b : Bool) → included rules (marked (get_or sets n [])) kept ≡ b
            → P (pick b (listed_with rules (listed_in rules sets kept n) (marked (get_or sets n []))) (listed_in rules sets kept n))
        go true e = more (included-subset (marked (get_or sets n [])) kept e)
        go false e = same

    -- of n cores at most n are listed
    pub listed_in_count : (n : ℕ) → (listed_in rules sets kept n).ncores ≤ n
    unfolding listed_in
    listed_in_count zero = le_refl 0
    listed_in_count (suc n) =
        let below = listed_in_count n in
        listed_in_by n (λ r. r.ncores ≤ suc n)
        (λ w. let more = listing_count rules (listed_in rules sets kept n) (marked (get_or sets n [])) in omega (arith, below, more))
        (omega (arith, below))

    pub listed_in_small : (n : ℕ) → (listed_in rules sets kept n).least ≤ (listed_in rules sets kept n).ncores * max_weight
    unfolding listed_in
    listed_in_small zero = omega arith
    listed_in_small (suc n) =
        listed_in_by n (λ r. r.least ≤ r.ncores * max_weight)
        (λ w. listing_small rules (listed_in rules sets kept n) (marked (get_or sets n [])) (listed_in_small n))
        (listed_in_small n)

    pub listed_in_bound : (n most : ℕ) → n ≤ most → (listed_in rules sets kept n).least ≤ most * max_weight
    listed_in_bound n most h =
        let few = listed_in_count n in let small = listed_in_small n in omega (arith, few, small, h)

    listed_in_grows : (n : ℕ) → (listed_in rules sets kept n).ncores ≤ (listed_in rules sets kept (suc n)).ncores
    listed_in_grows n =
        listed_in_by n (λ r. (listed_in rules sets kept n).ncores ≤ r.ncores)
        (λ w. listing_more rules (listed_in rules sets kept n) (marked (get_or sets n [])))
        (le_refl _)

    -- where all are kept, the first one is listed
    none_apart : (core : ℕ → Bool) → all (length rules) (fresh_at none_listed core) ≡ true
    none_apart core =
        T→true _
        (all_of (length rules) (fresh_at none_listed core)
        (λ k h. unless_of (core k) (eqb (number none_listed k) 0) (λ t. true→T _ (eq-eqb (number none_listed k) 0 (no_number k)))))

    listed_one : ((k : ℕ) → k < length rules → T (kept k)) → 1 ≤ (listed_in rules sets kept 1).ncores
    unfolding listed_with listed_in
    listed_one whole =
        rw (included_of (marked (get_or sets 0 [])) kept (λ k h t. whole k h), none_apart (marked (get_or sets 0 []))) (omega arith)

    pub listed_first : ((k : ℕ) → k < length rules → T (kept k)) → (n : ℕ) → 0 < n → 1 ≤ (listed_in rules sets kept n).ncores
    listed_first whole zero h = absurd (omega arith)
    listed_first whole (suc n) h = from n
      where
        from : (n : ℕ) → 1 ≤ (listed_in rules sets kept (suc n)).ncores
        from zero = listed_one whole
        from (suc n) = let below = from n in let more = listed_in_grows (suc n) in omega (arith, below, more)

-- ---- those that are listed are cores

eqb_old : (a : Bool) (x n j : ℕ) → (T a → x ≡ 0) → 1 ≤ j → j ≤ n → eqb (pick a (n + 1) x) j ≡ eqb x j
eqb_old true x n j z l h =
    refuted→false (eqb (n + 1) j) (λ t. omega (arith, eqb→eq (n + 1) j t, h))
    ∙ sym (refuted→false (eqb x j) (λ t. omega (arith, eqb→eq x j t, z tt, l)))
eqb_old false x n j z l h = refl

eqb_new : (a : Bool) (x n : ℕ) → x ≤ n → eqb (pick a (n + 1) x) (n + 1) ≡ a
eqb_new true x n h = eq-eqb (n + 1) (n + 1) refl
eqb_new false x n h = refuted→false (eqb x (n + 1)) (λ t. omega (arith, eqb→eq x (n + 1) t, h))

pick_this : (a : Bool) (x y : ℕ) → T a → pick a x y ≡ x
pick_this true x y t = refl
pick_this false x y t = absurd t

pick_other : (a : Bool) (x y : ℕ) → (T a → ⊥) → pick a x y ≡ y
pick_other true x y f = absurd (f tt)
pick_other false x y f = refl

pick_most : (a : Bool) (x n : ℕ) → x ≤ n → pick a (n + 1) x ≤ n + 1
pick_most true x n h = le_refl (n + 1)
pick_most false x n h = omega (arith, h)

module _ (p : Problem) (fit : Relaxable p) where
  -- a core has a rule, as without any there is an order
  core_some : (A : ℕ → Bool) → IsCore p A → (k : ℕ) × (k < length p.rules) × T (A k)
  core_some A core =
      ⊎_elim
      (λ z. absurd
      (core.clash
      (feasible_fewer p A no_rule
      (λ k h t. let more = count_pos (length p.rules) A k h t in absurd (omega (arith, z, more)))
      fit.lawful fit.hopeful)))
      (count-some (length p.rules) A)
      (eq-zero-or-pos (count (length p.rules) A))

  pub none_lists : ListsCores p none_listed
  none_lists =
      record {
        long = length-replicate {A = ℕ} max_rules 0;
        numbers = λ k. omega (arith, no_number k);
        core = λ j l h. absurd (omega (arith, l, h));
        some = λ j l h. absurd (omega (arith, l, h));
        least = sym (sum-none every (λ j. least_weight p.rules (length p.rules) (in_core none_listed.numbers (j + 1))));
      }

  module _ (s : DisjointCores) (is : ListsCores p s) (A : ℕ → Bool) (core : IsCore p A) where
    module _ (apart : Apart p.rules s A) where
      abbrev next : List ℕ
      next = (with_core p.rules s A).numbers

      next-long : length next ≡ max_rules
      next-long = length-table max_rules (λ k. pick (A k) (s.ncores + 1) (get_or s.numbers k 0))

      next_at : (k : ℕ) → get_or next k 0 ≡ pick (A k) (s.ncores + 1) (number s k)
      next_at k =
          ⊎_elim (number_with p.rules s A k)
          (λ g.
          get_or-past next max_rules k next-long g
          ∙ sym
          (pick_other (A k) (s.ncores + 1) (number s k) (λ t. let h = core.inside k t in let few = fit.few in omega (arith, h, few, g))
          ∙ get_or-past s.numbers max_rules k is.long g))
          (lt_or_le k max_rules)

      zero_at : (k : ℕ) → T (A k) → number s k ≡ 0
      zero_at k t = apart k (core.inside k t) t

      next_old : (j : ℕ) → 1 ≤ j → j ≤ s.ncores → in_core next j ≡ in_core s.numbers j
      next_old j l h = fun_ext (λ k. rw (next_at k) (eqb_old (A k) (number s k) s.ncores j (zero_at k) l h))

      next_new : in_core next (s.ncores + 1) ≡ A
      next_new = fun_ext (λ k. rw (next_at k) (eqb_new (A k) (number s k) s.ncores (is.numbers k)))

      next_cores : (j : ℕ) → 1 ≤ j → (j ≤ s.ncores) ⊎ (j ≡ s.ncores + 1) → IsCore p (in_core next j)
      next_cores j l (inl h) = subst (IsCore p) (sym (next_old j l h)) (is.core j l h)
      next_cores j l (inr e) = rw e (subst (IsCore p) (sym next_new) core)

      next_some : (j : ℕ) → 1 ≤ j → (j ≤ s.ncores) ⊎ (j ≡ s.ncores + 1) → (k : ℕ) × (k < length p.rules) × (get_or next k 0 ≡ j)
      next_some j l (inl h) =
          let r = is.some j l h in
          (r.0, r.1, next_at r.0 ∙ pick_other (A r.0) (s.ncores + 1) (number s r.0) (λ t. omega (arith, zero_at r.0 t, r.2, l)) ∙ r.2)
      next_some j l (inr e) =
          let r = core_some A core in
          (r.0, r.1, next_at r.0 ∙ pick_this (A r.0) (s.ncores + 1) (number s r.0) r.2 ∙ sym e)

      one_of : (j n : ℕ) → j ≤ n + 1 → (j ≤ n) ⊎ (j ≡ n + 1)
      one_of j n h = ⊎_elim (λ l. inr (omega (arith, l, h))) inl (lt_or_le n j)

      abbrev least_in : List ℕ → ℕ → ℕ
      least_in numbers j = least_weight p.rules (length p.rules) (in_core numbers (j + 1))

      next_least : s.least + least_weight p.rules (length p.rules) A ≡ sum (s.ncores + 1) every (least_in next)
      next_least =
          let before =
          sum_cong s.ncores every (least_in next) (least_in s.numbers)
          (λ j h. ap (least_weight p.rules (length p.rules)) (next_old (j + 1) (omega arith) (omega (arith, h)))) in
          let last = ap (least_weight p.rules (length p.rules)) next_new in
          omega (arith, before, last, is.least, sum_more s.ncores every (least_in next))

      with_lists : ListsCores p (with_core p.rules s A)
      with_lists =
          record {
            long = next-long;
            numbers = λ k. rw (next_at k) (pick_most (A k) (number s k) s.ncores (is.numbers k));
            core = λ j l h. next_cores j l (one_of j s.ncores h);
            some = λ j l h. next_some j l (one_of j s.ncores h);
            least = next_least;
          }

    pub listing_lists : ListsCores p (listed_with p.rules s A)
    listing_lists = listing_by p.rules s A (ListsCores p) with_lists (λ f. is)

    -- a rule of the core has a number then
    pub listing_meets : (k : ℕ) × (k < length p.rules) × T (A k) × (number (listed_with p.rules s A) k ≡ 0 → ⊥)
    listing_meets =
        listing_by p.rules s A (λ r. (k : ℕ) × (k < length p.rules) × T (A k) × (number r k ≡ 0 → ⊥))
        (λ apart.
        let r = core_some A core in
        (r.0, r.1, r.2, λ z. let e = next_at apart r.0 ∙ pick_this (A r.0) (s.ncores + 1) (number s r.0) r.2 in omega (arith, z, e)))
        (λ f. f)

  pub listed_lists : (c : Cores) → Remembers p c → (kept : ℕ → Bool) → (n : ℕ) → n ≤ c.n → ListsCores p (listed_in p.rules c.sets kept n)
  unfolding listed_in
  listed_lists c r kept zero h = none_lists
  listed_lists c r kept (suc n) h =
      let below = listed_lists c r kept n (omega (arith, h)) in
      listed_in_by p.rules c.sets kept n (ListsCores p)
      (λ w. listing_lists (listed_in p.rules c.sets kept n) below (core_at c n) (r.each n h))
      below

  -- a number once given stays
  pub listing_stays : (s : DisjointCores) (A : ℕ → Bool) (k : ℕ) → k < length p.rules → (number s k ≡ 0 → ⊥)
      → number (listed_with p.rules s A) k ≡ number s k
  listing_stays s A k h f =
      listing_by p.rules s A (λ r. number r k ≡ number s k)
      (λ apart.
      number_with p.rules s A k (let few = fit.few in omega (arith, h, few))
      ∙ pick_other (A k) (s.ncores + 1) (number s k) (λ t. f (apart k h t)))
      (λ e. refl)

-- ---- what no set that has an order costs less than

-- a rule that is in a listed core and not in this set
abbrev given_up : DisjointCores → (ℕ → Bool) → ℕ → Bool
given_up s K k = not (eqb (number s k) 0) && not (K k)

-- each rule that is in a listed core is kept, and every set that has an order lacks so much weight of them
pub record Floors (p : Problem) (kept : ℕ → Bool) (s : DisjointCores) : Type 0 where
  pub within : (k : ℕ) → k < length p.rules → (number s k ≡ 0 → ⊥) → T (kept k)
  pub least : (K : ℕ → Bool) → T (feasible p K) → s.least ≤ sum (length p.rules) (given_up s K) (weight_at p.rules)

given_is : (s : DisjointCores) (K : ℕ → Bool) (k : ℕ) → T (given_up s K k) → (number s k ≡ 0 → ⊥) × (T (K k) → ⊥)
given_is s K k t = (
  λ z. not→refuted (eqb (number s k) 0) (and_left (not (eqb (number s k) 0)) (not (K k)) t) (true→T _ (eq-eqb (number s k) 0 z)),
  not→refuted (K k) (and_right (not (eqb (number s k) 0)) (not (K k)) t),
)

given_of : (s : DisjointCores) (K : ℕ → Bool) (k : ℕ) → (number s k ≡ 0 → ⊥) → (T (K k) → ⊥) → T (given_up s K k)
given_of s K k f g =
    and_intro (not (eqb (number s k) 0)) (not (K k)) (refuted→not (eqb (number s k) 0) (λ t. f (eqb→eq (number s k) 0 t)))
    (refuted→not (K k) g)

module _ (p : Problem) (fit : Relaxable p) where
  -- a set that has an order lacks a rule of each core
  core_lacks : (A K : ℕ → Bool) → IsCore p A → T (feasible p K) → (k : ℕ) × (k < length p.rules) × T (A k) × (T (K k) → ⊥)
  core_lacks A K core t =
      ⊎_elim (λ w. absurd (core.clash (feasible_fewer p A K w fit.lawful t))) (λ r. r) (subset_or (length p.rules) A K)

  pub none_floors : (kept : ℕ → Bool) → Floors p kept none_listed
  none_floors kept = record { within = λ k h f. absurd (f (no_number k)); least = λ K t. omega arith }

  module _ (kept : ℕ → Bool) (s : DisjointCores) (is : Floors p kept s) (A : ℕ → Bool) (core : IsCore p A)
      (w : Subset (length p.rules) A kept) where
    module _ (apart : Apart p.rules s A) where
      next_number : (k : ℕ) → k < length p.rules → number (with_core p.rules s A) k ≡ pick (A k) (s.ncores + 1) (number s k)
      next_number k h = number_with p.rules s A k (let few = fit.few in omega (arith, h, few))

      next_within : (k : ℕ) → k < length p.rules → (number (with_core p.rules s A) k ≡ 0 → ⊥) → T (kept k)
      next_within k h f =
          ⊎_elim (w k h)
          (λ g. is.within k h (λ z. f (next_number k h ∙ pick_other (A k) (s.ncores + 1) (number s k) g ∙ z)))
          (decided (A k))

      -- what was given up is given up still, and the rule of this core that is lacking too
      next_given : (K : ℕ → Bool) → Subset (length p.rules) (given_up s K) (given_up (with_core p.rules s A) K)
      next_given K k h t =
          let g = given_is s K k t in
          given_of (with_core p.rules s A) K k
          (λ z. g.0 (sym (pick_other (A k) (s.ncores + 1) (number s k) (λ a. g.0 (apart k h a))) ∙ sym (next_number k h) ∙ z))
          g.1

      floor_next : (K : ℕ → Bool) → T (feasible p K)
          → s.least + least_weight p.rules (length p.rules) A
          ≤ sum (length p.rules) (given_up (with_core p.rules s A) K) (weight_at p.rules)
      floor_next K t =
          let r = core_lacks A K core t in
          let new = next_number r.0 r.1 ∙ pick_this (A r.0) (s.ncores + 1) (number s r.0) r.2 in
          let more =
          sum_less (length p.rules) (given_up s K) (given_up (with_core p.rules s A) K) (weight_at p.rules) (next_given K) r.0 r.1
          (given_of (with_core p.rules s A) K r.0 (λ z. omega (arith, z, new)) r.3)
          (λ g. (given_is s K r.0 g).0 (apart r.0 r.1 r.2)) in
          let least = least_weight-le p.rules A (length p.rules) r.0 r.1 r.2 in
          let before = is.least K t in
          omega (arith, more, least, before)

    pub listing_floors : Floors p kept (listed_with p.rules s A)
    listing_floors =
        listing_by p.rules s A (Floors p kept) (λ apart. record { within = next_within apart; least = floor_next apart }) (λ f. is)

  listed_in_floors : (c : Cores) → Remembers p c → (kept : ℕ → Bool) → (n : ℕ) → n ≤ c.n
      → Floors p kept (listed_in p.rules c.sets kept n)
  unfolding listed_in
  listed_in_floors c r kept zero h = none_floors kept
  listed_in_floors c r kept (suc n) h =
      let below = listed_in_floors c r kept n (omega (arith, h)) in
      listed_in_by p.rules c.sets kept n (Floors p kept)
      (λ w. listing_floors kept (listed_in p.rules c.sets kept n) below (core_at c n) (r.each n h) w)
      below

-- so a part of what is kept that has an order costs that much more, and any set that much
module _ (p : Problem) (kept : ℕ → Bool) (s : DisjointCores) (is : Floors p kept s) where
  floors_cost : (K : ℕ → Bool) → T (feasible p K) → Subset (length p.rules) K kept
      → cost_of p.rules kept + s.least ≤ cost_of p.rules K
  floors_cost K t w =
      let least = is.least K t in
      let both =
      sum_apart (length p.rules) (others kept) (given_up s K) (others K) (weight_at p.rules)
      (λ k h o. refuted→not (K k) (λ i. not→refuted (kept k) o (w k h i)))
      (λ k h g. refuted→not (K k) (given_is s K k g).1)
      (λ k h o g. not→refuted (kept k) o (is.within k h (given_is s K k g).0)) in
      omega (arith, least, both)

  pub floors_floor : IsFloor p s.least
  floors_floor K t =
      let least = is.least K t in
      let less =
      sum_mono (length p.rules) (given_up s K) (others K) (weight_at p.rules) (weight_at p.rules)
      (λ k h g. refuted→not (K k) (given_is s K k g).1)
      (λ k h g. le_refl (weight_at p.rules k)) in
      omega (arith, least, less)

-- of remembered cores; and where all rules are kept
module _ (p : Problem) (fit : Relaxable p) (c : Cores) (r : Remembers p c) where
  pub listed_floor : (kept : ℕ → Bool) (n : ℕ) → n ≤ c.n → (K : ℕ → Bool) → T (feasible p K) → Subset (length p.rules) K kept
      → cost_of p.rules kept + (listed_in p.rules c.sets kept n).least ≤ cost_of p.rules K
  listed_floor kept n h =
      floors_cost p kept (listed_in p.rules c.sets kept n) (listed_in_floors p fit c r kept n h)

  pub listed_first_floor : (n : ℕ) → n ≤ c.n → IsFloor p (listed_in p.rules c.sets (first (length p.rules)) n).least
  listed_first_floor n h =
      floors_floor p (first (length p.rules)) (listed_in p.rules c.sets (first (length p.rules)) n)
      (listed_in_floors p fit c r (first (length p.rules)) n h)
