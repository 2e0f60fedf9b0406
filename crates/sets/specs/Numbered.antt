-- A set of numbers as a number: member k counts 2 ^ k. Assumes nothing.
use Rattle.std.specs.Prelude.{◌≡◌, refl, ◌↔◌, Bool, true, false, ℕ, zero, suc, ◌+◌, ◌-◌, ◌*◌, ◌/◌, ◌%◌, ◌^◌, ◌≤◌, ◌<◌, T, eqb}
use Rattle.std.specs.Int.{bit_at}
use Rattle.std.specs.Int.RustNames.{bit_and, bit_or}
use Rattle.std.proofs.Common.{sym, ap, ◌∙◌, ⊎_elim, not-suc-le-zero, le_of_suc-le-suc, eq-or-lt_of_le, arith, eqb→eq, eq-eqb, le_refl}
use Rattle.std.proofs.Math.Path.{fun_ext}
use Rattle.std.proofs.Math.Nat.{pow-succ'}
use Rattle.std.proofs.lemmas.Nat.{pow_pos}
use Rattle.std.proofs.lemmas.Nat.Bits.{bit_at_lowest, bit_at-lt, bit_at_above, bit_at_cat_low, bit_at_cat_high, same_from_bits_below, shr_and_one, bit_at_and, bit_at_or}
use Rattle.sets.specs.Choice.{pick, true→T, false→refuted, refuted→false, lt_or_le}
use Rattle.sets.specs.Bounded.{without, without_still}
use Rattle.sets.specs.Sum.{sum, sum_more, sum_same, sum_without}

-- the set that a number stands for: k is in it where bit k is set
unfoldable pub numbered : ℕ → ℕ → Bool
numbered c k = eqb (bit_at c k) 1

-- and the number of the set of those below m that are in A
unfoldable pub number_of : ℕ → (ℕ → Bool) → ℕ
number_of m A = sum m A (λ k. 2 ^ k)

-- ---- the number of a set

-- a loop that counts up: nothing yet, and one number more
pub number_none : (A : ℕ → Bool) → number_of 0 A ≡ 0
unfolding number_of sum
number_none A = refl

pub number_more : (i : ℕ) (A : ℕ → Bool) → number_of (i + 1) A ≡ number_of i A + pick (A i) (2 ^ i) 0
unfolding number_of
number_more i A = sum_more i A (λ k. 2 ^ k)

-- equal members give equal numbers
pub number_same : (m : ℕ) (A B : ℕ → Bool) → ((k : ℕ) → k < m → A k ≡ B k) → number_of m A ≡ number_of m B
unfolding number_of
number_same m A B same = sum_same m A B (λ k. 2 ^ k) (λ k. 2 ^ k) same (λ k h. refl)

next : (m : ℕ) (A : ℕ → Bool) → number_of (suc m) A ≡ pick (A m) 1 0 * 2 ^ m + number_of m A
unfolding number_of sum
next m A = go (A m)
  where
    go : (b : Bool) → sum m A (λ k. 2 ^ k) + pick b (2 ^ m) 0 ≡ pick b 1 0 * 2 ^ m + sum m A (λ k. 2 ^ k)
    go true = omega arith
    go false = omega arith

bit-le : (b : Bool) (n : ℕ) → pick b 1 0 * n ≤ n
bit-le true n = omega arith
bit-le false n = omega arith

pub number-lt : (m : ℕ) (A : ℕ → Bool) → number_of m A < 2 ^ m
number-lt zero A = rw (number_none A) (omega arith)
number-lt (suc m) A = omega (arith, next m A, number-lt m A, bit-le (A m) (2 ^ m), pow-succ' 2 m)

bit_pick : (b : Bool) → eqb (pick b 1 0 % 2) 1 ≡ b
bit_pick true = refl
bit_pick false = refl

-- ---- the set of a number

-- a number of m bits has no member from m on
pub numbered_beyond : (m c k : ℕ) → c < 2 ^ m → m ≤ k → numbered c k ≡ false
unfolding numbered
numbered_beyond m c k h over = ap (λ (b : ℕ). eqb b 1) (bit_at_above c m k h over)

-- 0 stands for the empty set
pub numbered_none : numbered 0 ≡ (λ k. false)
numbered_none = fun_ext (λ k. numbered_beyond 0 0 k (omega arith) (omega arith))

-- the number of a set stands for the set
pub numbered_number : (m : ℕ) (A : ℕ → Bool) (k : ℕ) → k < m → numbered (number_of m A) k ≡ A k
unfolding numbered
numbered_number zero A k h = absurd (not-suc-le-zero h)
numbered_number (suc m) A k h =
    ap (λ (c : ℕ). eqb (bit_at c k) 1) (next m A)
    ∙ ⊎_elim last (λ l. ap (λ (b : ℕ). eqb b 1) (bit_at_cat_low (pick (A m) 1 0) m (number_of m A) k l) ∙ numbered_number m A k l)
    (eq-or-lt_of_le (le_of_suc-le-suc h))
  where
    last : k ≡ m → eqb (bit_at (pick (A m) 1 0 * 2 ^ m + number_of m A) k) 1 ≡ A k
    last e =
        let none : k - m ≡ 0 = omega arith in
        ap (λ (b : ℕ). eqb b 1)
        (bit_at_cat_high (pick (A m) 1 0) m (number_of m A) k (number-lt m A) (omega arith)
        ∙ ap (bit_at (pick (A m) 1 0)) none
        ∙ bit_at_lowest (pick (A m) 1 0))
        ∙ bit_pick (A m)
        ∙ ap A (sym e)

bit_back : (b : ℕ) → b < 2 → pick (eqb b 1) 1 0 ≡ b
bit_back zero h = refl
bit_back (suc zero) h = refl
bit_back (suc (suc b)) h = absurd (omega arith)

-- and a number is that of its set
pub number_numbered : (m c : ℕ) → c < 2 ^ m → number_of m (numbered c) ≡ c
unfolding numbered
number_numbered m c h =
    same_from_bits_below m (number_of m (numbered c)) c (number-lt m (numbered c)) h
    (λ i l.
    sym (bit_back (bit_at (number_of m (numbered c)) i) (bit_at-lt (number_of m (numbered c)) i))
    ∙ ap (λ (b : Bool). pick b 1 0) (numbered_number m (numbered c) i l)
    ∙ bit_back (bit_at c i) (bit_at-lt c i))

-- ---- one member fewer

self-lt-pow : (n : ℕ) → n < 2 ^ n
self-lt-pow zero = omega arith
self-lt-pow (suc n) = omega (arith, self-lt-pow n, pow-succ' 2 n)

pub numbered-le : (c k : ℕ) → T (numbered c k) → 2 ^ k ≤ c
numbered-le c k t =
    ⊎_elim (λ less. absurd (false→refuted (numbered c k) (numbered_beyond k c k less (le_refl k)) t)) (λ h. h) (lt_or_le c (2 ^ k))

-- a smaller number
pub numbered-lt : (c k : ℕ) → T (numbered c k) → c - 2 ^ k < c
numbered-lt c k t = omega (arith, numbered-le c k t, pow_pos k)

pub numbered_without : (c k : ℕ) → T (numbered c k) → numbered (c - 2 ^ k) ≡ without (numbered c) k
unfolding number_of
numbered_without c k t =
    fun_ext (λ j. ⊎_elim
    (λ l. ap (λ (d : ℕ). numbered d j) less ∙ numbered_number c (without (numbered c) k) j l)
    (λ over. numbered_beyond c (c - 2 ^ k) j (omega (arith, self-lt-pow c)) over ∙ sym (out j (numbered_beyond c c j (self-lt-pow c) over)))
    (lt_or_le j c))
  where
    less : c - 2 ^ k ≡ number_of c (without (numbered c) k)
    less =
        let here : k < c = omega (arith, numbered-le c k t, self-lt-pow k) in
        omega (arith, sum_without c (numbered c) (λ i. 2 ^ i) k here t, number_numbered c c (self-lt-pow c))

    out : (j : ℕ) → numbered c j ≡ false → without (numbered c) k j ≡ false
    out j e = refuted→false _ (λ s. false→refuted (numbered c j) e (without_still (numbered c) k j s).0)

-- ---- fewer members, and more

-- the test `c & d == c`
pub numbered_subset : (c d : ℕ) → bit_and c d ≡ c → (k : ℕ) → T (numbered c k) → T (numbered d k)
unfolding numbered
numbered_subset c d e k t =
    let both = ap (λ (n : ℕ). bit_at n k) (sym e) ∙ bit_at_and c d k in
    let one = eqb→eq (bit_at c k) 1 t in
    true→T (numbered d k) (eq-eqb (bit_at d k) 1 (omega (arith, both, one, bit_at-lt d k)))

pub numbered_or : (c d k : ℕ) → T (numbered c k) → T (numbered (bit_or c d) k)
unfolding numbered
numbered_or c d k t =
    true→T (numbered (bit_or c d) k)
    (eq-eqb (bit_at (bit_or c d) k) 1 (omega (arith, bit_at_or c d k, eqb→eq (bit_at c k) 1 t, bit_at-lt (bit_or c d) k)))

-- ---- one member

-- the test `c >> k & 1 == 1`
pub shifted_numbered : (c k : ℕ) → eqb (bit_and (c / 2 ^ k) 1) 1 ≡ numbered c k
unfolding numbered
shifted_numbered c k = ap (λ (b : ℕ). eqb b 1) (shr_and_one c k)

pub shifted-in : (c k : ℕ) → (bit_and (c / 2 ^ k) 1 ≡ 1) ↔ T (numbered c k)
unfolding numbered
shifted-in c k = (
  λ e. true→T (numbered c k) (eq-eqb (bit_at c k) 1 (sym (shr_and_one c k) ∙ e)),
  λ t. shr_and_one c k ∙ eqb→eq (bit_at c k) 1 t,
)
