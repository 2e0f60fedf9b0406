-- A written number reads back, and the numbers that can be read are the ones that are written. Assumes nothing.
use Rattle.std.specs.Prelude.{◌≡◌, refl, true, not, ◌||◌, List, [], ◌∷◌, ◌++◌, ◌⊎◌, ◌↔◌, ◌≢◌, ℕ, zero, suc, ◌+◌, ◌-◌, ◌*◌, ◌/◌, ◌%◌, ◌^◌, ◌≤◌, ◌<◌, T, leb, eqb, length, get_or}
use Rattle.std.proofs.Common.{sym, ap, ◌∙◌, append_assoc, append-nil, inl, inr, pow-suc, mul-le-mul_right, arith, leb→le, le→leb, length-append, ne_eqb, eq-eqb}
use Rattle.std.proofs.Math.Bool.{or-true}
use Rattle.std.proofs.Math.Nat.{pow-le-pow_right}
use Rattle.std.proofs.Math.ListN.{get_or-append}
use Rattle.sets.specs.Choice.{T→true, true→T, lt_or_le, and_intro, and_left, and_right}
use Rattle.lines.specs.Decimal.{max_digits, is_digit, are_digits, value_after, value, is_number, decimal}
use Rattle.lines.specs.DecimalLaws.{decimal_one, decimal-more}

-- ---- digits, one more at the end

-- their value
value_snoc : (v : ℕ) (ds : List ℕ) (d : ℕ) → value_after v (ds ++ d ∷ []) ≡ value_after v ds * 10 + (d - 48)
unfolding value_after
value_snoc v [] d = refl
value_snoc v (b ∷ bs) d = value_snoc (v * 10 + (b - 48)) bs d

-- and they are digits still
digits_snoc : (ds : List ℕ) (d : ℕ) → T (are_digits ds) → T (is_digit d) → T (are_digits (ds ++ d ∷ []))
unfolding are_digits
digits_snoc [] d t s = and_intro (is_digit d) true s tt
digits_snoc (b ∷ bs) d t s =
    and_intro (is_digit b) (are_digits (bs ++ d ∷ [])) (and_left (is_digit b) (are_digits bs) t)
    (digits_snoc bs d (and_right (is_digit b) (are_digits bs) t) s)

-- ---- what is written

-- induction on the digits: a single one, or those of m and d after them
module _ (P : ℕ → List ℕ → Type 0) (one : (d : ℕ) → d < 10 → P d ((48 + d) ∷ []))
    (more : (n m d : ℕ) → 1 ≤ m → d < 10 → n ≡ m * 10 + d → P m (decimal m) → P n (decimal m ++ (48 + d) ∷ [])) where
  steps : (f n : ℕ) → n < f → P n (decimal n)
  steps zero n h = absurd (omega arith)
  steps (suc f) n h = go (lt_or_le n 10) (steps f (n / 10))
    where
      go : (n < 10) ⊎ (10 ≤ n) → (n / 10 < f → P (n / 10) (decimal (n / 10))) → P n (decimal n)
      go (inl few) front = rw (decimal_one n few) (one n few)
      go (inr many) front =
          rw (decimal-more n many)
          (more n (n / 10) (n % 10) (omega arith) (omega arith) (omega arith) (front (omega arith)))

  by_digits : (n : ℕ) → P n (decimal n)
  by_digits n = steps (suc n) n (omega arith)

-- at least one digit
pub decimal-some : (n : ℕ) → 1 ≤ length (decimal n)
decimal-some =
    by_digits (λ n ds. 1 ≤ length ds) (λ d few. omega arith)
    (λ n m d some few e front. omega (arith, length-append (decimal m) ((48 + d) ∷ [])))

-- at most k digits below 10 ^ k
pub decimal-width : (k n : ℕ) → 1 ≤ k → n < 10 ^ k → length (decimal n) ≤ k
decimal-width k n = by_digits (λ n ds. (k : ℕ) → 1 ≤ k → n < 10 ^ k → length ds ≤ k) (λ d few k some h. some) more n k
  where
    more : (n m d : ℕ) → 1 ≤ m → d < 10 → n ≡ m * 10 + d → ((k : ℕ) → 1 ≤ k → m < 10 ^ k → length (decimal m) ≤ k)
        → (k : ℕ) → 1 ≤ k → n < 10 ^ k → length (decimal m ++ (48 + d) ∷ []) ≤ k
    more n m d some few e front zero least h = absurd (omega arith)
    more n m d some few e front (suc zero) least h = absurd (omega arith)
    more n m d some few e front (suc (suc k)) least h =
        omega (arith, length-append (decimal m) ((48 + d) ∷ []), front (suc k) (omega arith) (omega arith))

-- the digits have its value
pub decimal-value : (n : ℕ) → value (decimal n) ≡ n
unfolding value_after
decimal-value =
    by_digits (λ n ds. value ds ≡ n) (λ d few. omega arith)
    (λ n m d some few e front. omega (arith, value_snoc 0 (decimal m) (48 + d)))

-- and are digits
pub decimal_digits : (n : ℕ) → T (are_digits (decimal n))
unfolding are_digits
decimal_digits =
    by_digits (λ n ds. T (are_digits ds)) (λ d few. and_intro (is_digit (48 + d)) true (digit d few) tt)
    (λ n m d some few e front. digits_snoc (decimal m) (48 + d) front (digit d few))
  where
    digit : (d : ℕ) → d < 10 → T (is_digit (48 + d))
    digit d few =
        and_intro (leb 48 (48 + d)) (leb (48 + d) 57) (le→leb 48 (48 + d) (omega arith)) (le→leb (48 + d) 57 (omega arith))

-- the first one is not 0
decimal-first : (n : ℕ) → 1 ≤ n → 48 < get_or (decimal n) 0 0
decimal-first =
    by_digits (λ n ds. 1 ≤ n → 48 < get_or ds 0 0) (λ d few some. omega arith)
    (λ n m d some few e front _. rw (get_or-append (decimal m) ((48 + d) ∷ []) 0 0 (decimal-some m)) (front some))

-- save that of 0 itself: no leading zero
decimal_plain : (n : ℕ) → T (eqb (length (decimal n)) 1 || not (eqb (get_or (decimal n) 0 0) 48))
decimal_plain zero = rw (decimal_one 0 (omega arith)) tt
decimal_plain (suc n) =
    let first = decimal-first (suc n) (omega arith) in
    rw (ne_eqb (get_or (decimal (suc n)) 0 0) 48 (omega arith), or-true (eqb (length (decimal (suc n))) 1)) tt

-- ---- what is read

-- what the test for a digit tells
pub digit_bounds : (b : ℕ) → T (is_digit b) → (48 ≤ b) × (b ≤ 57)
digit_bounds b t = (leb→le 48 b (and_left (leb 48 b) (leb b 57) t), leb→le b 57 (and_right (leb 48 b) (leb b 57) t))

-- k digits after the value v stay below (v + 1) * 10 ^ k
below : (v : ℕ) (bs : List ℕ) → T (are_digits bs) → value_after v bs < suc v * 10 ^ length bs
unfolding value_after are_digits
below v [] t = omega arith
below v (b ∷ bs) t =
    let digit = digit_bounds b (and_left (is_digit b) (are_digits bs) t) in
    rw (pow-suc 10 (length bs))
    (go (v * 10 + (b - 48)) (10 ^ length bs) (omega arith)
    (below (v * 10 + (b - 48)) bs (and_right (is_digit b) (are_digits bs) t)))
  where
    go : (w p : ℕ) {n : ℕ} → suc w ≤ suc v * 10 → n < suc w * p → n < suc v * (p * 10)
    go w p h k = omega (arith, mul-le-mul_right p h)

-- k digits are below 10 ^ k
pub number_bound : (bs : List ℕ) → T (are_digits bs) → value_after 0 bs < 10 ^ length bs
number_bound bs t = omega (arith, below 0 bs t)

-- one more digit, after a value above zero
pub decimal_snoc : (v b : ℕ) → 1 ≤ v → T (is_digit b) → decimal (v * 10 + (b - 48)) ≡ decimal v ++ b ∷ []
decimal_snoc v b some t =
    let digit = digit_bounds b t in
    let n : ℕ = v * 10 + (b - 48) in
    let front : n / 10 ≡ v = omega arith in
    let last : 48 + n % 10 ≡ b = omega arith in
    decimal-more n (omega arith) ∙ rw (front, last)

-- digits after a value above zero: they follow its own
digits_follow : (v : ℕ) (bs : List ℕ) → 1 ≤ v → T (are_digits bs) → decimal (value_after v bs) ≡ decimal v ++ bs
unfolding value_after are_digits
digits_follow v [] some t = sym (append-nil (decimal v))
digits_follow v (b ∷ bs) some t =
    digits_follow (v * 10 + (b - 48)) bs (omega arith) (and_right (is_digit b) (are_digits bs) t)
    ∙ rw (decimal_snoc v b some (and_left (is_digit b) (are_digits bs) t)) (append_assoc (decimal v) (b ∷ []) bs)

-- a digit alone
first_digit : (b : ℕ) → T (is_digit b) → decimal (0 * 10 + (b - 48)) ≡ b ∷ []
first_digit b t =
    let digit = digit_bounds b t in
    let same : 48 + (0 + (b - 48)) ≡ b = omega arith in
    decimal_one (0 + (b - 48)) (omega arith) ∙ rw same

-- what the test for a number tells, besides that there are digits
pub number_parts : (bs : List ℕ) → T (is_number bs)
    → (length bs ≤ max_digits) × T (are_digits bs) × T (eqb (length bs) 1 || not (eqb (get_or bs 0 0) 48))
unfolding is_number
number_parts bs t = search (and_left, and_right, leb→le)

-- of several digits the first is not 0
pub not-zero : (l b : ℕ) → 1 < l → T (eqb l 1 || not (eqb b 48)) → b ≢ 48
not-zero l b more t e = rw (ne_eqb l 1 (omega arith), eq-eqb b 48 e) at t

-- the digits of a number are the ones that are written
decimal_of : (bs : List ℕ) → T (is_number bs) → decimal (value bs) ≡ bs
unfolding is_number value_after are_digits
decimal_of [] t = absurd t
decimal_of (b ∷ []) t = first_digit b (search (and_left, and_right))
decimal_of (b ∷ c ∷ bs) t =
    let (_, digits, plain) = number_parts (b ∷ c ∷ bs) t in
    let digit = and_left (is_digit b) (are_digits (c ∷ bs)) digits in
    let high : b ≢ 48 = not-zero (length (b ∷ c ∷ bs)) b (omega arith) plain in
    let low = digit_bounds b digit in
    digits_follow (0 * 10 + (b - 48)) (c ∷ bs) (omega arith) (and_right (is_digit b) (are_digits (c ∷ bs)) digits)
    ∙ rw (first_digit b digit)

-- ---- both ways

-- what is written is a number
decimal_number : (n : ℕ) → n < 10 ^ max_digits → T (is_number (decimal n))
unfolding is_number
decimal_number n h =
    search (and_intro, le→leb, decimal-some n, decimal-width max_digits n (omega arith) h, decimal_digits n, decimal_plain n)

-- and reads as the one that was written
pub read_back : (n : ℕ) → n < 10 ^ max_digits → (is_number (decimal n) ≡ true) × (value (decimal n) ≡ n)
read_back n h = (T→true (is_number (decimal n)) (decimal_number n h), decimal-value n)

-- only what is written for n reads as n
pub number_exactly : (bs : List ℕ) (n : ℕ)
    → ((is_number bs ≡ true) × (value bs ≡ n)) ↔ ((bs ≡ decimal n) × (n < 10 ^ max_digits))
number_exactly bs n = (read, λ h. rw h.0 (read_back n h.1))
  where
    read : (is_number bs ≡ true) × (value bs ≡ n) → (bs ≡ decimal n) × (n < 10 ^ max_digits)
    read (is, same) =
        let t = true→T (is_number bs) is in
        let (width, digits, _) = number_parts bs t in (
          sym (decimal_of bs t) ∙ ap decimal same,
          omega (arith, same, number_bound bs digits, pow-le-pow_right {n = 10} (omega arith) width),
        )
