-- The greatest value over a marked set of the numbers below a bound, 0 where the set is empty. Assumes nothing.
use Rattle.std.specs.Prelude.{◌≡◌, refl, Bool, true, false, ◌⊎◌, ℕ, zero, suc, ◌+◌, ◌≤◌, ◌<◌, max, T}
use Rattle.std.proofs.Common.{sym, ◌∙◌, inl, inr, ⊎_elim, le_refl, le_antisymm, not-suc-le-zero, add-one, arith}
use Rattle.std.proofs.Math.Nat.{le_step}
use Rattle.sets.specs.Choice.{pick, true→T, T→true, lt_or_le}
use Rattle.sets.specs.Bounded.{below_suc}

unfoldable pub maximum : ℕ → (ℕ → Bool) → (ℕ → ℕ) → ℕ
maximum zero A f = 0
maximum (suc n) A f = max (maximum n A f) (pick (A n) (f n) 0)

-- a loop that counts up: nothing yet, and one number more
pub maximum-none : (A : ℕ → Bool) (f : ℕ → ℕ) → maximum 0 A f ≡ 0
unfolding maximum
maximum-none A f = refl

pub maximum-more : (i : ℕ) (A : ℕ → Bool) (f : ℕ → ℕ) → maximum (i + 1) A f ≡ max (maximum i A f) (pick (A i) (f i) 0)
unfolding maximum
maximum-more i A f = rw add-one

pub maximum_turn : (i : ℕ) (A : ℕ → Bool) (f : ℕ → ℕ) {m x y : ℕ} → m ≡ maximum i A f → x ≡ pick (A i) (f i) 0 → y ≡ max m x
    → y ≡ maximum (i + 1) A f
maximum_turn i A f e here next = rw (maximum-more i A f, ← e, ← here) next

pub maximum_whole : (n i : ℕ) (A : ℕ → Bool) (f : ℕ → ℕ) {m : ℕ} → i ≤ n → n ≤ i → m ≡ maximum i A f → m ≡ maximum n A f
maximum_whole n i A f under over e = rw (le_antisymm over under) e

-- ---- it bounds every value of the set, and is one of them or 0

pub maximum_at : (n : ℕ) (A : ℕ → Bool) (f : ℕ → ℕ) (k : ℕ) → k < n → T (A k) → f k ≤ maximum n A f
unfolding maximum
maximum_at zero A f k h t = absurd (not-suc-le-zero h)
maximum_at (suc n) A f k h t =
    below_suc (λ j. T (A j) → f j ≤ max (maximum n A f) (pick (A n) (f n) 0)) n
    (λ j l s. let below = maximum_at n A f j l s in omega arith)
    (λ s. rw (T→true (A n) s) (omega arith))
    k h t

pub maximum_found : (n : ℕ) (A : ℕ → Bool) (f : ℕ → ℕ)
    → (maximum n A f ≡ 0) ⊎ ((k : ℕ) × (k < n) × T (A k) × (f k ≡ maximum n A f))
unfolding maximum
maximum_found zero A f = inl refl
maximum_found (suc n) A f = go (A n) refl (maximum_found n A f) (lt_or_le (maximum n A f) (f n))
  where
    Found : ℕ → ℕ → Type 0
    Found bound m = (m ≡ 0) ⊎ ((k : ℕ) × (k < bound) × T (A k) × (f k ≡ m))

    below : (m : ℕ) → maximum n A f ≡ m → Found n (maximum n A f) → Found (suc n) m
    below m e = ⊎_elim (λ z. inl (sym e ∙ z)) (λ s. inr (s.0, le_step s.1, s.2, s.3 ∙ e))

    go : (b : Bool) → A n ≡ b → Found n (maximum n A f) → (maximum n A f < f n) ⊎ (f n ≤ maximum n A f)
        → Found (suc n) (max (maximum n A f) (pick b (f n) 0))
    go true e rest (inl more) = inr (n, le_refl (suc n), true→T (A n) e, omega arith)
    go true e rest (inr less) = below _ (omega arith) rest
    go false e rest order = below _ (omega arith) rest

-- so no value beyond b is none beyond b
pub maximum-le : (n : ℕ) (A : ℕ → Bool) (f : ℕ → ℕ) (b : ℕ) → ((k : ℕ) → k < n → T (A k) → f k ≤ b) → maximum n A f ≤ b
maximum-le n A f b each =
    ⊎_elim (λ z. omega arith) (λ s. let h = each s.0 s.1 s.2 in omega (arith, h, s.3)) (maximum_found n A f)

-- equal sets and values give the same
pub maximum_same : (n : ℕ) (B A : ℕ → Bool) (f g : ℕ → ℕ) → ((k : ℕ) → k < n → (B k ≡ A k) × (f k ≡ g k)) → maximum n B f ≡ maximum n A g
unfolding maximum
maximum_same zero B A f g same = refl
maximum_same (suc n) B A f g same =
    let here = same n (le_refl (suc n)) in
    rw (maximum_same n B A f g (λ k h. same k (le_step h)), here.0, here.1)
