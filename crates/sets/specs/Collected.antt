-- What a function gives for the numbers below a bound that are in a set, in rising order. Assumes nothing.
use Rattle.std.specs.Prelude.{◌≡◌, refl, Bool, true, false, List, [], ◌∷◌, ◌++◌, ℕ, zero, suc, ◌+◌, ◌-◌, ◌≤◌, ◌<◌, T, length, get_or}
use Rattle.std.proofs.Common.{ap, subst, ◌∙◌, ⊎_elim, not-suc-le-zero, le_of_suc-le-suc, eq-or-lt_of_le, add-one, append-nil, arith, length-append}
use Rattle.std.proofs.Math.ListN.{get_or-append}
use Rattle.std.proofs.lemmas.List.{get_or-append_right}
use Rattle.sets.specs.Choice.{pick, true→T, T→true, refuted→false}
use Rattle.sets.specs.Bounded.{every, count, count_whole, count-le, count-lt, count_reach, count_pos}

unfoldable pub collected : {A : Type 0} → (ℕ → Bool) → (ℕ → A) → ℕ → List A
collected isIn f zero = []
collected isIn f (suc n) = collected isIn f n ++ pick (isIn n) (f n ∷ []) []

-- the numbers themselves
abbrev pub itself : ℕ → ℕ
itself k = k

module _ {A : Type 0} (isIn : ℕ → Bool) (f : ℕ → A) where
  abbrev front : ℕ → List A
  front = collected isIn f

  -- as many as are in
  pub collected_length : (n : ℕ) → length (front n) ≡ count n isIn
  unfolding collected count
  collected_length zero = refl
  collected_length (suc n) = length-append (front n) (pick (isIn n) (f n ∷ []) []) ∙ go (isIn n) (collected_length n)
    where
      go : (b : Bool) → length (front n) ≡ count n isIn → length (front n) + length (pick b (f n ∷ []) []) ≡ count n isIn + pick b 1 0
      go true e = ap (λ (m : ℕ). m + 1) e
      go false e = ap (λ (m : ℕ). m + 0) e

  pub collected_few : (n : ℕ) → length (front n) ≤ n
  collected_few n = omega (arith, collected_length n, count-le n isIn)

  -- one where some number is in
  pub collected-some : (n i : ℕ) → i < n → T (isIn i) → 1 ≤ length (front n)
  collected-some n i h t = omega (arith, collected_length n, count_pos n isIn i h t)

  -- what a number gives stands behind what those before it give, and nothing else stands there
  pub collected_at : (n k : ℕ) (d : A) → k < n → T (isIn k) → get_or (front n) (count k isIn) d ≡ f k
  unfolding collected
  collected_at zero k d h t = absurd (not-suc-le-zero h)
  collected_at (suc n) k d h t = ⊎_elim last (λ l. before l (collected_at n k d l t)) (eq-or-lt_of_le (le_of_suc-le-suc h))
    where
      here : count n isIn - length (front n) ≡ 0
      here = omega (arith, collected_length n)

      last : k ≡ n → get_or (front n ++ pick (isIn n) (f n ∷ []) []) (count k isIn) d ≡ f k
      last e =
          rw (e, T→true (isIn n) (subst (λ (j : ℕ). T (isIn j)) e t))
          (get_or-append_right (front n) (f n ∷ []) (length (front n)) (count n isIn) d refl (omega (arith, collected_length n))
          ∙ ap (λ (i : ℕ). get_or (f n ∷ []) i d) here)

      before : k < n → get_or (front n) (count k isIn) d ≡ f k → get_or (front n ++ pick (isIn n) (f n ∷ []) []) (count k isIn) d ≡ f k
      before l e =
          get_or-append (front n) (pick (isIn n) (f n ∷ []) []) d (count k isIn) (omega (arith, collected_length n, count-lt n isIn k l t))
          ∙ e

  pub collected_entry : (n i : ℕ) → i < length (front n) → (k : ℕ) × (k < n) × T (isIn k) × (count k isIn ≡ i)
  collected_entry n i h = count_reach n isIn i (omega (arith, h, collected_length n))

  pub collected_none : (n : ℕ) → ((i : ℕ) → i < n → T (isIn i) → ⊥) → front n ≡ []
  unfolding collected
  collected_none zero out = refl
  collected_none (suc n) out =
      rw (refuted→false (isIn n) (out n (omega arith)), append-nil (front n)) (collected_none n (λ i h. out i (omega arith)))

  -- a loop that counts up: none yet; and one number more, which is in or out
  pub collected_zero : front 0 ≡ []
  unfolding collected
  collected_zero = refl

  pub collected_in : (k : ℕ) → isIn k ≡ true → front (k + 1) ≡ front k ++ f k ∷ []
  unfolding collected
  collected_in k e = rw (add-one k, e)

  pub collected_out : (k : ℕ) → isIn k ≡ false → front (k + 1) ≡ front k
  unfolding collected
  collected_out k e = rw (add-one k, e) (append-nil (front k))

pub ruleset collecting = (collected_zero, collected_in, collected_out, collected_few, true→T)

-- with every number in
pub collected_every : {A : Type 0} (f : ℕ → A) (n : ℕ) → length (collected every f n) ≡ n
collected_every f n = collected_length every f n ∙ count_whole n every (λ j h. tt)
