-- Sums over a marked set of the numbers below a bound. Assumes nothing.
use Rattle.std.specs.Prelude.{◌≡◌, refl, Bool, true, false, ℕ, zero, suc, ◌+◌, ◌*◌, ◌≤◌, ◌<◌, T, eqb}
use Rattle.std.proofs.Common.{sym, ap, subst, eqb→eq, ⊎_elim, le_refl, le_antisymm, add-le-add, mul-zero, zero-mul, suc-mul, mul-add, not-suc-le-zero, le_of_suc-le-suc, eq-or-lt_of_le, add-one, arith}
use Rattle.std.proofs.Math.Nat.{le_step}
use Rattle.sets.specs.Choice.{pick, T→true, true→T, refuted→false, false→refuted, same_test}
use Rattle.sets.specs.Bounded.{Subset, without, without_still, without_other}

-- ---- the sum of f over the numbers below n that are in A

unfoldable pub sum : ℕ → (ℕ → Bool) → (ℕ → ℕ) → ℕ
sum zero A f = 0
sum (suc n) A f = sum n A f + pick (A n) (f n) 0

-- a loop that counts up: nothing yet, and one number more
pub sum-none : (A : ℕ → Bool) (f : ℕ → ℕ) → sum 0 A f ≡ 0
unfolding sum
sum-none A f = refl

pub sum_more : (i : ℕ) (A : ℕ → Bool) (f : ℕ → ℕ) → sum (i + 1) A f ≡ sum i A f + pick (A i) (f i) 0
unfolding sum
sum_more i A f = rw add-one

-- the total of such a loop, from a base: before it, after one turn more, at its end
pub sum_start : (base : ℕ) (above : ℕ → Bool) (f : ℕ → ℕ) → base ≡ base + sum 0 above f
sum_start base above f = omega (arith, sum-none above f)

pub sum_turn : (total base j : ℕ) (above : ℕ → Bool) (f : ℕ → ℕ) (x : ℕ) → total ≡ base + sum j above f
    → x ≡ pick (above j) (f j) 0 → total + x ≡ base + sum (j + 1) above f
sum_turn total base j above f x e k = omega (arith, sum_more j above f)

pub sum_end : (total base j n : ℕ) (above : ℕ → Bool) (f : ℕ → ℕ) → total ≡ base + sum j above f → j ≤ n → n ≤ j
    → total ≡ base + sum n above f
sum_end total base j n above f e under over = rw (le_antisymm over under) e

term_mono : (b a : Bool) (x y : ℕ) → (T b → T a) → (T b → x ≤ y) → pick b x 0 ≤ pick a y 0
term_mono true true x y f g = g tt
term_mono true false x y f g = absurd (f tt)
term_mono false true x y f g = omega arith
term_mono false false x y f g = le_refl 0

-- fewer members and smaller terms give a smaller sum
pub sum_mono : (n : ℕ) (B A : ℕ → Bool) (f g : ℕ → ℕ) → Subset n B A → ((j : ℕ) → j < n → T (B j) → f j ≤ g j)
    → sum n B f ≤ sum n A g
unfolding sum
sum_mono zero B A f g w h = le_refl 0
sum_mono (suc n) B A f g w h =
    add-le-add (sum_mono n B A f g (λ j l. w j (le_step l)) (λ j l. h j (le_step l)))
    (term_mono (B n) (A n) (f n) (g n) (w n (le_refl (suc n))) (h n (le_refl (suc n))))

-- a set that lacks a member of the other lacks its term
pub sum_less : (n : ℕ) (B A : ℕ → Bool) (f : ℕ → ℕ) → Subset n B A → (k : ℕ) → k < n → T (A k) → (T (B k) → ⊥)
    → sum n B f + f k ≤ sum n A f
unfolding sum
sum_less zero B A f w k h a b = absurd (not-suc-le-zero h)
sum_less (suc n) B A f w k h a b =
    ⊎_elim at_n (λ l. let below = sum_less n B A f under k l a b in omega (arith, below, step)) (eq-or-lt_of_le (le_of_suc-le-suc h))
  where
    under : Subset n B A
    under j l = w j (le_step l)

    step : pick (B n) (f n) 0 ≤ pick (A n) (f n) 0
    step = term_mono (B n) (A n) (f n) (f n) (w n (le_refl (suc n))) (λ t. le_refl (f n))

    at_n : k ≡ n → sum (suc n) B f + f k ≤ sum (suc n) A f
    at_n e =
        let a' = T→true (A n) (rw e at a) in
        let b' = refuted→false (B n) (rw e at b) in
        let below = sum_mono n B A f f under (λ j l t. le_refl (f j)) in
        rw (a', b', e) (omega (arith, below))

-- without a member the sum lacks its term, and no other
pub sum_without : (n : ℕ) (A : ℕ → Bool) (f : ℕ → ℕ) (k : ℕ) → k < n → T (A k) → sum n (without A k) f + f k ≡ sum n A f
unfolding sum
sum_without zero A f k h a = absurd (not-suc-le-zero h)
sum_without (suc n) A f k h a = ⊎_elim at_n (λ l. under l (sum_without n A f k l a)) (eq-or-lt_of_le (le_of_suc-le-suc h))
  where
    at_n : k ≡ n → sum (suc n) (without A k) f + f k ≡ sum (suc n) A f
    at_n e =
        let rest =
        le_antisymm (sum_mono n (without A k) A f f (λ j l t. (without_still A k j t).0) (λ j l t. le_refl (f j)))
        (sum_mono n A (without A k) f f (λ j l t. without_other A k j (λ q. omega (arith, q, e, l)) t) (λ j l t. le_refl (f j))) in
        let gone : without A k n ≡ false = refuted→false (without A k n) (λ t. (without_still A k n t).1 e) in
        let here : A n ≡ true = T→true (A n) (subst (λ (q : ℕ). T (A q)) e a) in
        rw (gone, here) (omega (arith, rest, ap f e))

    under : k < n → sum n (without A k) f + f k ≡ sum n A f → sum (suc n) (without A k) f + f k ≡ sum (suc n) A f
    under l below =
        let same : without A k n ≡ A n = rw (refuted→false (eqb k n) (λ t. omega (arith, l, eqb→eq k n t))) refl in
        rw same (omega (arith, below))

-- equal members and equal terms give equal sums
pub sum_same : (n : ℕ) (A B : ℕ → Bool) (f g : ℕ → ℕ) → ((j : ℕ) → j < n → A j ≡ B j) → ((j : ℕ) → j < n → f j ≡ g j) → sum n A f ≡ sum n B g
unfolding sum
sum_same zero A B f g v w = refl
sum_same (suc n) A B f g v w =
    rw (v n (le_refl (suc n)), w n (le_refl (suc n)), sum_same n A B f g (λ j l. v j (le_step l)) (λ j l. w j (le_step l))) refl

pub sum_cong : (n : ℕ) (A : ℕ → Bool) (f g : ℕ → ℕ) → ((j : ℕ) → j < n → f j ≡ g j) → sum n A f ≡ sum n A g
sum_cong n A f g = sum_same n A A f g (λ j l. refl)

-- terms of at most b each
pub sum-le : (n : ℕ) (A : ℕ → Bool) (f : ℕ → ℕ) (b : ℕ) → ((j : ℕ) → j < n → T (A j) → f j ≤ b) → sum n A f ≤ n * b
unfolding sum
sum-le zero A f b h = omega (arith, zero-mul b)
sum-le (suc n) A f b h =
    rw suc-mul
    (add-le-add (sum-le n A f b (λ j l. h j (le_step l))) (term_mono (A n) true (f n) b (λ t. tt) (h n (le_refl (suc n)))))

term_scaled : (a : Bool) (x y z v k : ℕ) → (T a → x + v * y ≤ k * z) → pick a x 0 + v * pick a y 0 ≤ k * pick a z 0
term_scaled true x y z v k h = h tt
term_scaled false x y z v k h = omega (arith, mul-zero v, mul-zero k)

-- where f + v · g ≤ k · h at each member, the sums stand so too
pub sum_scaled : (n : ℕ) (A : ℕ → Bool) (f g h : ℕ → ℕ) (v k : ℕ) → ((j : ℕ) → j < n → T (A j) → f j + v * g j ≤ k * h j)
    → sum n A f + v * sum n A g ≤ k * sum n A h
unfolding sum
sum_scaled zero A f g h v k e = omega (arith, mul-zero v, mul-zero k)
sum_scaled (suc n) A f g h v k e =
    let below = sum_scaled n A f g h v k (λ j l. e j (le_step l)) in
    let here = term_scaled (A n) (f n) (g n) (h n) v k (e n (le_refl (suc n))) in
    simp mul-add (omega (arith, below, here))

-- ---- sets that share no member

term_apart : (a b c : Bool) (x : ℕ) → (T a → T c) → (T b → T c) → (T a → T b → ⊥) → pick a x 0 + pick b x 0 ≤ pick c x 0
term_apart true true c x f g h = absurd (h tt tt)
term_apart true false c x f g h = rw (T→true c (f tt)) (omega arith)
term_apart false true c x f g h = rw (T→true c (g tt)) (omega arith)
term_apart false false c x f g h = omega arith

-- two parts of a set that share no member come to no more than it
pub sum_apart : (n : ℕ) (A B C : ℕ → Bool) (f : ℕ → ℕ) → Subset n A C → Subset n B C → ((j : ℕ) → j < n → T (A j) → T (B j) → ⊥)
    → sum n A f + sum n B f ≤ sum n C f
unfolding sum
sum_apart zero A B C f v w apart = omega arith
sum_apart (suc n) A B C f v w apart =
    let below = sum_apart n A B C f (λ j l. v j (le_step l)) (λ j l. w j (le_step l)) (λ j l. apart j (le_step l)) in
    let last = le_refl (suc n) in
    let here = term_apart (A n) (B n) (C n) (f n) (v n last) (w n last) (apart n last) in
    omega (arith, below, here)

-- ---- into another sum, and a member apart

-- a sum whose members have places of their own in another, with terms no smaller, is no greater
pub sum_into : (n m : ℕ) (B A : ℕ → Bool) (f g : ℕ → ℕ) (at : ℕ → ℕ)
    → ((j : ℕ) → j < n → T (B j) → (at j < m) × T (A (at j)) × (f j ≤ g (at j)))
    → ((i j : ℕ) → i < n → j < n → T (B i) → T (B j) → at i ≡ at j → i ≡ j) → sum n B f ≤ sum m A g
unfolding sum
sum_into zero m B A f g at into once = omega arith
sum_into (suc n) m B A f g at into once =
    go (B n) refl (λ C into'. sum_into n m B C f g at into' (λ i j h l. once i j (le_step h) (le_step l)))
  where
    Into : (ℕ → Bool) → Type 0
    Into C = (j : ℕ) → j < n → T (B j) → (at j < m) × T (C (at j)) × (f j ≤ g (at j))

    go : (b : Bool) → B n ≡ b → ((C : ℕ → Bool) → Into C → sum n B f ≤ sum m C g) → sum n B f + pick b (f n) 0 ≤ sum m A g
    go true e below =
        let t = true→T (B n) e in
        let last = into n (le_refl (suc n)) t in
        let others = below (without A (at n))
        (λ j l s.
        let there = into j (le_step l) s in
        (there.0, without_other A (at n) (at j) (λ q. omega (arith, l, once n j (le_refl (suc n)) (le_step l) t s q)) there.1, there.2)) in
        omega (arith, others, last.2, sum_without m A g (at n) last.0 last.1)
    go false e below = let rest = below A (λ j l. into j (le_step l)) in omega (arith, rest)

-- without a number, and its term where it was a member
pub sum_with : (n : ℕ) (A : ℕ → Bool) (f : ℕ → ℕ) (k : ℕ) → k < n → sum n A f ≡ sum n (without A k) f + pick (A k) (f k) 0
sum_with n A f k h = go (A k) refl
  where
    go : (b : Bool) → A k ≡ b → sum n A f ≡ sum n (without A k) f + pick b (f k) 0
    go true e = sym (sum_without n A f k h (true→T (A k) e))
    go false e =
        let same : (j : ℕ) → j < n → A j ≡ without A k j =
        λ j l. same_test (A j) (without A k j) (λ t. without_other A k j (λ q. false→refuted (A k) e (rw q t)) t)
        (λ t. (without_still A k j t).0) in
        omega (arith, sum_same n A (without A k) f f same (λ j l. refl))
