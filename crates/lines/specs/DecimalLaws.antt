-- Laws of written numbers: one digit at a time, the last one last. Assumes nothing.
use Rattle.std.specs.Prelude.{◌≡◌, refl, [], ◌∷◌, ◌++◌, ◌⊎◌, ℕ, zero, suc, ◌+◌, ◌/◌, ◌%◌, ◌≤◌, ◌<◌, length}
use Rattle.std.proofs.Common.{ap, ◌∙◌, inl, inr, arith, length-append, lt-ltb, le-ltb}
use Rattle.sets.specs.Choice.{lt_or_le}
use Rattle.lines.specs.Decimal.{digits_in, decimal}

-- any number of steps that is enough gives the same digits
enough : (f g n : ℕ) → n ≤ f → n ≤ g → digits_in f n ≡ digits_in g n
unfolding digits_in
enough zero zero n a b = refl
enough zero (suc g) n a b = let few : n < 10 = omega arith in rw (lt-ltb n 10 few)
enough (suc f) zero n a b = let few : n < 10 = omega arith in rw (lt-ltb n 10 few)
enough (suc f) (suc g) n a b = go (lt_or_le n 10) (enough f g (n / 10))
  where
    go : (n < 10) ⊎ (10 ≤ n) → (n / 10 ≤ f → n / 10 ≤ g → digits_in f (n / 10) ≡ digits_in g (n / 10))
        → digits_in (suc f) n ≡ digits_in (suc g) n
    go (inl few) same = rw (lt-ltb n 10 few)
    go (inr many) same = rw (le-ltb n 10 many, same (omega arith) (omega arith))

-- one digit
pub decimal_one : (n : ℕ) → n < 10 → decimal n ≡ (48 + n) ∷ []
unfolding decimal digits_in
decimal_one zero h = refl
decimal_one (suc n) h = rw (lt-ltb (suc n) 10 h)

-- and several
pub decimal-more : (n : ℕ) → 10 ≤ n → decimal n ≡ decimal (n / 10) ++ (48 + n % 10) ∷ []
unfolding decimal digits_in
decimal-more zero h = absurd (omega arith)
decimal-more (suc n) h =
    let m = suc n / 10 in rw (le-ltb (suc n) 10 h, enough n m m (omega arith) (omega arith))

-- one more than without the last
pub decimal_longer : (n : ℕ) → 10 ≤ n → length (decimal n) ≡ length (decimal (n / 10)) + 1
decimal_longer n h = ap length (decimal-more n h) ∙ length-append (decimal (n / 10)) ((48 + n % 10) ∷ [])
