-- Tests over the numbers below a bound: all pass, the greatest that passes, how many pass.
-- A set of numbers is a test, ℕ → Bool, of which only what lies below the bound counts. Assumes nothing.
use Rattle.std.specs.Prelude.{Option, None, Some}
use Rattle.std.specs.Prelude.{◌≡◌, refl, Bool, true, false, not, ◌&&◌, ◌⊎◌, List, ℕ, zero, suc, ◌+◌, ◌≤◌, ◌<◌, T, eqb, ltb, length, get_or}
use Rattle.std.specs.List.{list_any}
use Rattle.std.proofs.Common.{ap, ◌∙◌, inl, inr, ⊎_elim, not-suc-le-zero, le_of_suc-le-suc, eq-or-lt_of_le, le_refl, le_antisymm, add-le-add, add-lt-add_of_le_of_lt, eq-zero-or-pos, add-one, arith, eqb→eq, ltb→lt, lt→ltb, add-zero, add-suc}
use Rattle.std.proofs.lemmas.List.{get_or_default}
use Rattle.std.proofs.lemmas.List.Folds.{Any-from_list_any, list_any_at}
use Rattle.std.proofs.Math.Nat.{le_step, add-lt-add_of_lt_of_le}
use Rattle.std.proofs.Math.Dec.{eqb_refl}
use Rattle.sets.specs.Choice.{pick, decided, not→refuted, refuted→not, and_intro, and_left, and_right, same_test, T→true, true→T, refuted→false, false→refuted, lt_or_le, and-true, and_swap}

-- every number
abbrev pub every : ℕ → Bool
every k = true

-- every number below n that is in B is in A
abbrev pub Subset : ℕ → (ℕ → Bool) → (ℕ → Bool) → Type 0
Subset n B A = (j : ℕ) → j < n → T (B j) → T (A j)

-- the numbers that are not in A
abbrev pub others : (ℕ → Bool) → ℕ → Bool
others A k = not (A k)

-- the set A without k
abbrev pub without : (ℕ → Bool) → ℕ → ℕ → Bool
without A k j = pick (eqb k j) false (A j)

pub without_still : (A : ℕ → Bool) (k j : ℕ) → T (without A k j) → T (A j) × (k ≡ j → ⊥)
without_still A k j t = go (eqb k j) refl t
  where
    go : (b : Bool) → eqb k j ≡ b → T (pick b false (A j)) → T (A j) × (k ≡ j → ⊥)
    go true e s = absurd s
    go false e s = (s, λ f. false→refuted (eqb k j) e (rw (← f) (eqb_refl k)))

pub without_other : (A : ℕ → Bool) (k j : ℕ) → (k ≡ j → ⊥) → T (A j) → T (without A k j)
without_other A k j apart t = rw (refuted→false (eqb k j) (λ s. apart (eqb→eq k j s))) t

-- what holds below n and at n holds below suc n
pub below_suc : (P : ℕ → Type 0) (n : ℕ) → ((k : ℕ) → k < n → P k) → P n → (k : ℕ) → k < suc n → P k
below_suc P n under here k h = ⊎_elim (λ e. rw e here) (under k) (eq-or-lt_of_le (le_of_suc-le-suc h))

-- ---- all

unfoldable pub all : ℕ → (ℕ → Bool) → Bool
all zero p = true
all (suc n) p = p n && all n p

pub all_at : (n : ℕ) (p : ℕ → Bool) → T (all n p) → (k : ℕ) → k < n → T (p k)
unfolding all
all_at zero p t = λ k h. absurd (not-suc-le-zero h)
all_at (suc n) p t = below_suc (λ k. T (p k)) n (all_at n p (and_right (p n) (all n p) t)) (and_left (p n) (all n p) t)

pub all_of : (n : ℕ) (p : ℕ → Bool) → ((k : ℕ) → k < n → T (p k)) → T (all n p)
unfolding all
all_of zero p each = tt
all_of (suc n) p each = and_intro (p n) (all n p) (each n (le_refl (suc n))) (all_of n p (λ k h. each k (le_step h)))

pub all-not : (n : ℕ) (p : ℕ → Bool) (k : ℕ) → k < n → p k ≡ false → all n p ≡ false
all-not n p k h e = refuted→false (all n p) (λ t. false→refuted (p k) e (all_at n p t k h))

-- equal tests, and the numbers below n and those from n on
pub all_same : (n : ℕ) (p q : ℕ → Bool) → ((k : ℕ) → k < n → p k ≡ q k) → all n p ≡ all n q
unfolding all
all_same zero p q same = refl
all_same (suc n) p q same = rw (same n (le_refl (suc n)), all_same n p q (λ k h. same k (le_step h)))

pub all_split : (n m : ℕ) (p : ℕ → Bool) → all (n + m) p ≡ (all n p && all m (λ k. p (n + k)))
unfolding all
all_split n zero p = rw (add-zero n) (and-true (all n p))
all_split n (suc m) p = rw (add-suc n m, all_split n m p) (and_swap (p (n + m)) (all n p) (all m (λ k. p (n + k))))

-- a loop that counts up: nothing yet, one number more, and the whole range
pub all_none : (p : ℕ → Bool) → T (all 0 p)
all_none p = all_of 0 p (λ k h. absurd (not-suc-le-zero h))

pub all-next : (i : ℕ) (p : ℕ → Bool) → all (i + 1) p ≡ (p i && all i p)
unfolding all
all-next i p = rw add-one

pub all_more : (i : ℕ) (p : ℕ → Bool) → T (all i p) → p i ≡ true → T (all (i + 1) p)
all_more i p t e = rw (all-next i p) (and_intro (p i) (all i p) (true→T (p i) e) t)

pub all_whole : (n i : ℕ) (p : ℕ → Bool) → i ≤ n → n ≤ i → T (all i p) → all n p ≡ true
all_whole n i p under over t = rw (le_antisymm over under) (T→true (all i p) t)

-- ---- the greatest

unfoldable pub greatest : ℕ → (ℕ → Bool) → Option ℕ
greatest zero p = None
greatest (suc n) p = let later = greatest n p in pick (p n) (Some n) later

-- k is below n and passes, and nothing between them does
pub record IsGreatest (n : ℕ) (p : ℕ → Bool) (k : ℕ) : Type 0 where
  pub below : k < n
  pub passes : T (p k)
  pub last : (j : ℕ) → j < n → k < j → T (p j) → ⊥

-- what `greatest` gives: the greatest that passes, or none where nothing does
pub data Greatest (n : ℕ) (p : ℕ → Bool) : Option ℕ → Type 0 where
  found : (k : ℕ) → IsGreatest n p k → Greatest n p (Some k)
  nothing : ((k : ℕ) → k < n → T (p k) → ⊥) → Greatest n p None

greater : (n : ℕ) (p : ℕ → Bool) (r : Option ℕ) → (T (p n) → ⊥) → Greatest n p r → Greatest (suc n) p r
greater n p r not-n (found k g) =
    found k
    (record {
      below = le_step g.below;
      passes = g.passes;
      last = below_suc (λ j. k < j → T (p j) → ⊥) n g.last (λ l. not-n);
    })
greater n p r not-n (nothing None-passes) = nothing (below_suc (λ j. T (p j) → ⊥) n None-passes not-n)

pub greatest_is : (n : ℕ) (p : ℕ → Bool) → Greatest n p (greatest n p)
unfolding greatest
greatest_is zero p = nothing (λ k h. absurd (not-suc-le-zero h))
greatest_is (suc n) p = go (p n) refl (greatest_is n p)
  where
    go : (b : Bool) → p n ≡ b → Greatest n p (greatest n p) → Greatest (suc n) p (pick b (Some n) (greatest n p))
    go true e g = found n (record { below = le_refl (suc n); passes = true→T (p n) e; last = λ j h l. absurd (omega arith) })
    go false e g = greater n p (greatest n p) (false→refuted (p n) e) g

-- and nothing else is
pub greatest_only : (n : ℕ) (p : ℕ → Bool) (r : Option ℕ) → Greatest n p r → r ≡ greatest n p
greatest_only n p r is = go r is (greatest n p) (greatest_is n p)
  where
    no_more : (k j : ℕ) → IsGreatest n p k → IsGreatest n p j → k ≤ j
    no_more k j g h = ⊎_elim (λ more. absurd (h.last k g.below more g.passes)) (λ le. le) (lt_or_le j k)

    go : (a : Option ℕ) → Greatest n p a → (b : Option ℕ) → Greatest n p b → a ≡ b
    go a (found k g) b (found j h) = ap Some (le_antisymm (no_more k j g h) (no_more j k h g))
    go a (found k g) b (nothing out) = absurd (out k g.below g.passes)
    go a (nothing out) b (found j h) = absurd (out j h.below h.passes)
    go a (nothing out) b (nothing none) = refl

-- a loop that counts down: one that passes, and one that doesn't
pub greatest_at : (i : ℕ) (p : ℕ → Bool) → p i ≡ true → greatest (suc i) p ≡ Some i
unfolding greatest
greatest_at i p e = rw e

pub greatest_under : (i : ℕ) (p : ℕ → Bool) → p i ≡ false → greatest (suc i) p ≡ greatest i p
unfolding greatest
greatest_under i p e = rw e

-- ---- how many

unfoldable pub count : ℕ → (ℕ → Bool) → ℕ
count zero p = 0
count (suc n) p = count n p + pick (p n) 1 0

-- a loop that counts up: nothing yet, and one number more
pub count_none : (p : ℕ → Bool) → count 0 p ≡ 0
unfolding count
count_none p = refl

pub count-more : (i : ℕ) (p : ℕ → Bool) → count (i + 1) p ≡ count i p + pick (p i) 1 0
unfolding count
count-more i p = rw add-one

step_le : (a b : Bool) → (T b → T a) → pick b 1 0 ≤ pick a 1 0
step_le true true f = le_refl 1
step_le true false f = omega arith
step_le false true f = absurd (f tt)
step_le false false f = le_refl 0

pub count_mono : (n : ℕ) (B A : ℕ → Bool) → Subset n B A → count n B ≤ count n A
unfolding count
count_mono zero B A w = le_refl 0
count_mono (suc n) B A w =
    add-le-add (count_mono n B A (λ j h. w j (le_step h))) (step_le (A n) (B n) (w n (le_refl (suc n))))

-- a set that lacks a member of the other has fewer
pub count_less : (n : ℕ) (B A : ℕ → Bool) → Subset n B A → (k : ℕ) → k < n → T (A k) → (T (B k) → ⊥) → count n B < count n A
unfolding count
count_less zero B A w k h a b = absurd (not-suc-le-zero h)
count_less (suc n) B A w k h a b =
    ⊎_elim at_n (λ l. add-lt-add_of_lt_of_le (count_less n B A under k l a b) step) (eq-or-lt_of_le (le_of_suc-le-suc h))
  where
    under : Subset n B A
    under j l = w j (le_step l)

    step : pick (B n) 1 0 ≤ pick (A n) 1 0
    step = step_le (A n) (B n) (w n (le_refl (suc n)))

    at_n : k ≡ n → count (suc n) B < count (suc n) A
    at_n e =
        let a' = T→true (A n) (rw e at a) in
        let b' = refuted→false (B n) (rw e at b) in
        rw (a', b') (add-lt-add_of_le_of_lt (count_mono n B A under) (le_refl 1))

-- a set with at most the one member k more has at most one more
pub count_but : (n : ℕ) (B A : ℕ → Bool) (k : ℕ) → ((j : ℕ) → j < n → T (A j) → (j ≡ k → ⊥) → T (B j))
    → count n A ≤ suc (count n B)
unfolding count
count_but zero B A k w = omega arith
count_but (suc n) B A k w = ⊎_elim at_n (beside (count_but n B A k (λ j h. w j (le_step h)))) (decided (eqb n k))
  where
    at_n : T (eqb n k) → count (suc n) A ≤ suc (count (suc n) B)
    at_n t =
        let e = eqb→eq n k t in
        let below = count_mono n A B (λ j h a. w j (le_step h) a (λ f. omega arith)) in
        let one = step_le true (A n) (λ s. tt) in
        omega arith

    beside : count n A ≤ suc (count n B) → (T (eqb n k) → ⊥) → count (suc n) A ≤ suc (count (suc n) B)
    beside below apart =
        let step = step_le (B n) (A n) (λ a. w n (le_refl (suc n)) a (λ e. apart (rw (← e) (eqb_refl n)))) in
        omega arith

pub count_whole : (n : ℕ) (A : ℕ → Bool) → ((j : ℕ) → j < n → T (A j)) → count n A ≡ n
unfolding count
count_whole zero A each = refl
count_whole (suc n) A each =
    rw (count_whole n A (λ j h. each j (le_step h)), T→true (A n) (each n (le_refl (suc n)))) (add-one n)

pub count-le : (n : ℕ) (A : ℕ → Bool) → count n A ≤ n
count-le n A = let all = count_mono n A every (λ j h t. tt) in omega (arith, all, count_whole n every (λ j h. tt))

-- before a member fewer are in than in all; and every count below that of all is reached at a member
pub count-lt : (n : ℕ) (A : ℕ → Bool) (k : ℕ) → k < n → T (A k) → count k A < count n A
unfolding count
count-lt zero A k h a = absurd (not-suc-le-zero h)
count-lt (suc n) A k h a =
    ⊎_elim (λ e. rw (e, T→true (A n) (rw e at a)) (omega arith)) (λ l. let below = count-lt n A k l a in omega (arith, below))
    (eq-or-lt_of_le (le_of_suc-le-suc h))

pub count_reach : (n : ℕ) (A : ℕ → Bool) (i : ℕ) → i < count n A → (k : ℕ) × (k < n) × T (A k) × (count k A ≡ i)
unfolding count
count_reach zero A i h = absurd (omega (arith, h))
count_reach (suc n) A i h = ⊎_elim (λ l. let r = count_reach n A i l in (r.0, le_step r.1, r.2, r.3)) last (lt_or_le i (count n A))
  where
    last : count n A ≤ i → (k : ℕ) × (k < suc n) × T (A k) × (count k A ≡ i)
    last over = go (A n) refl h
      where
        go : (b : Bool) → A n ≡ b → i < count n A + pick b 1 0 → (k : ℕ) × (k < suc n) × T (A k) × (count k A ≡ i)
        go true e l = (n, le_refl (suc n), true→T (A n) e, omega (arith, over, l))
        go false e l = absurd (omega (arith, over, l))

-- some pass: they number more than 0
abbrev pub any : ℕ → (ℕ → Bool) → Bool
any n p = ltb 0 (count n p)

-- there is a member exactly when they number more than 0
pub count-some : (n : ℕ) (A : ℕ → Bool) → 0 < count n A → (k : ℕ) × (k < n) × T (A k)
unfolding count
count-some zero A h = absurd (omega arith)
count-some (suc n) A h = go (A n) refl (count-some n A) h
  where
    go : (b : Bool) → A n ≡ b → (0 < count n A → (k : ℕ) × (k < n) × T (A k)) → 0 < count n A + pick b 1 0
        → (k : ℕ) × (k < suc n) × T (A k)
    go true e below l = (n, le_refl (suc n), true→T (A n) e)
    go false e below l = let r = below (omega arith) in (r.0, le_step r.1, r.2)

pub count_pos : (n : ℕ) (A : ℕ → Bool) (k : ℕ) → k < n → T (A k) → 0 < count n A
count_pos n A k h a = let l = count_less n (λ j. false) A (λ j i t. absurd t) k h a (λ t. t) in omega arith

pub count-zero : (n : ℕ) (A : ℕ → Bool) → ((k : ℕ) → k < n → T (A k) → ⊥) → count n A ≡ 0
count-zero n A empty = ⊎_elim (λ z. z) (λ h. let k = count-some n A h in absurd (empty k.0 k.1 k.2)) (eq-zero-or-pos (count n A))

pub any_found : (n : ℕ) (p : ℕ → Bool) → T (any n p) → (k : ℕ) × (k < n) × T (p k)
any_found n p t = count-some n p (ltb→lt 0 (count n p) t)

pub any_of : (n : ℕ) (p : ℕ → Bool) (k : ℕ) → k < n → T (p k) → T (any n p)
any_of n p k h t = lt→ltb 0 (count n p) (count_pos n p k h t)

-- a set is part of another, or has a member that the other lacks
pub subset_or : (n : ℕ) (A B : ℕ → Bool) → Subset n A B ⊎ ((k : ℕ) × (k < n) × T (A k) × (T (B k) → ⊥))
subset_or n A B =
    ⊎_elim
    (λ t. let (k, h, s) = any_found n lacks t in inr (k, h, and_left (A k) (not (B k)) s, not→refuted (B k) (and_right (A k) (not (B k)) s)))
    (λ out. inl (λ k h a. ⊎_elim (λ b. b) (λ f. absurd (out (any_of n lacks k h (and_intro (A k) (not (B k)) a (refuted→not (B k) f))))) (decided (B k))))
    (decided (any n lacks))
  where
    lacks : ℕ → Bool
    lacks k = A k && not (B k)

-- some element of a list passes: some index has one that does
pub list_any-any : {A : Type 0} (p : A → Bool) (xs : List A) (d : A) → list_any p xs ≡ any (length xs) (λ k. p (get_or xs k d))
list_any-any p xs d =
    same_test (list_any p xs) (any (length xs) at)
    (λ t.
    let (k, x, h, e, is) = Any-from_list_any p xs (T→true _ t) in
    any_of (length xs) at k h (true→T _ (ap p (get_or_default xs k d x h ∙ e) ∙ is)))
    (λ t. let (k, h, s) = any_found (length xs) at t in true→T _ (list_any_at p xs k d h (T→true _ s)))
  where
    at : ℕ → Bool
    at k = p (get_or xs k d)
