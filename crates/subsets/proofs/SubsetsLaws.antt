-- Fewer rules keep a set feasible. Assumes nothing.
use Rattle.std.specs.Int.RustNames.{bit_and}
use Rattle.std.specs.Prelude.{◌≡◌, Bool, true, false, not, List, ℕ, ◌/◌, ◌+◌, ◌-◌, ◌*◌, ◌%◌, ◌^◌, ◌<◌, ◌≤◌, T, length, set}
use Rattle.std.proofs.Common.{sym, subst, ◌∙◌, arith, get_or-set_same, get_or-set_other}
use borrow.Author.Count.{below_more}
use Rattle.std.proofs.Math.Nat.{pow-le-pow_right}
use Rattle.std.proofs.lemmas.Nat.{one_shl, pow_pos, pow_below}
use Rattle.sets.specs.Choice.{T→true, true→T, refuted→false, and_intro, and_left, and_right, not→refuted, refuted→not, false→refuted}
use Rattle.sets.specs.Bounded.{without_still, any_found, any_of}
use Rattle.sets.specs.Numbered.{numbered, numbered-lt, numbered-le, numbered_without, shifted-in}
use Rattle.sets.specs.Marks.{marked}
use Rattle.taskset.specs.Model.{Lists, Sound}
use Rattle.assignment.specs.Audsley.{feasible, problem}
use Rattle.assignment.proofs.Preemptive.{less-feasible}
use Rattle.subsets.specs.Subsets.{short, subsets, fails_without, ruled_out}

-- so many sets
pub sets_shifted : (m : ℕ) → m ≤ short → 1 * 2 ^ m % 2 ^ 64 ≡ 2 ^ m
sets_shifted m h = one_shl m 64 (omega arith)

pub sets-le : (m : ℕ) → m ≤ short → 2 ^ m ≤ subsets
sets-le m h = pow-le-pow_right {n = 2} (omega arith) h

pub set-lt : (m : ℕ) → m ≤ short → (c : ℕ) → c < 1 * 2 ^ m % 2 ^ 64 → c < subsets
set-lt m h c l = omega (arith, l, sets_shifted m h, sets-le m h)

-- and those that a loop has looked at, as the code counts them: one of them, and where it has looked at all
pub set_seen : (m : ℕ) → m ≤ short → (c : ℕ) → c < 1 * 2 ^ m % 2 ^ 64 → c < 2 ^ m
set_seen m h c l = omega (arith, sets_shifted m h, l)

pub all_seen : (m : ℕ) → m ≤ short → (c : ℕ) → c ≤ 1 * 2 ^ m % 2 ^ 64 → 1 * 2 ^ m % 2 ^ 64 ≤ c → c ≡ 2 ^ m
all_seen m h c most end = omega (arith, sets_shifted m h, most, end)

pub in_table : (m : ℕ) → m ≤ short → (c : ℕ) → c < 2 ^ m → c < subsets
in_table m h c l = omega (arith, sets-le m h, l)

-- the set of all rules
pub all-lt : (m : ℕ) → m ≤ short → 1 * 2 ^ m % 2 ^ 64 - 1 < subsets
all-lt m h = omega (arith, sets_shifted m h, sets-le m h, pow_pos m)

-- the set of one rule
pub one-lt : (k : ℕ) → k < short → 1 * 2 ^ k % 2 ^ 64 < subsets
one-lt k h = omega (arith, one_shl k 64 (omega arith), pow_below k short h)

-- one set more
pub known_next : (f : ℕ → Bool) (found : List Bool) (c : ℕ) (b : Bool) → c < length found → ((d : ℕ) → d < c → marked found d ≡ f d)
    → b ≡ f c → (d : ℕ) → d < c + 1 → marked (set found c b) d ≡ f d
known_next f found c b h known e =
    below_more (λ d. marked (set found c b) d ≡ f d) c
    (λ d l. get_or-set_other found c d b false (λ q. omega (arith, q, l)) ∙ known d l)
    (get_or-set_same found c b false h ∙ e)

-- ---- one rule fewer

module _ (found : ℕ → Bool) (c k : ℕ) (in_bounds : k < short) where
  abbrev bit : ℕ
  bit = bit_and (c / 2 ^ k) 1

  abbrev shifted : ℕ
  shifted = 1 * 2 ^ k % 2 ^ 64

  is_bit : shifted ≡ 2 ^ k
  is_bit = one_shl k 64 (omega arith)

  pub bit-le : bit ≡ 1 → shifted ≤ c
  bit-le on = rw is_bit (numbered-le c k ((shifted-in c k).0 on))

  pub is_out : bit ≡ 1 → found (c - shifted) ≡ false → true ≡ ruled_out found c
  unfolding ruled_out
  is_out on e =
      sym (T→true _ (any_of short (fails_without found c) k in_bounds
      (and_intro (numbered c k) (not (found (c - 2 ^ k))) ((shifted-in c k).0 on) (refuted→not _ (false→refuted _ (rw is_bit at e))))))

  pub stays : found (c - shifted) ≡ true → T (fails_without found c k) → ⊥
  stays e t = not→refuted (found (c - 2 ^ k)) (and_right (numbered c k) (not (found (c - 2 ^ k))) t) (true→T _ (rw is_bit at e))

  pub stays_off : (bit ≡ 1 → ⊥) → T (fails_without found c k) → ⊥
  stays_off off t = off ((shifted-in c k).1 (and_left (numbered c k) (not (found (c - 2 ^ k))) t))

pub is_not_out : (found : ℕ → Bool) (c k : ℕ) → ((j : ℕ) → j < k → T (fails_without found c j) → ⊥) → short ≤ k → false ≡ ruled_out found c
unfolding ruled_out
is_not_out found c k none over =
    sym (refuted→false _ (λ t. let (j, h, s) = any_found short (fails_without found c) t in none j (omega arith) s))

module _ (l : Lists) (sound : Sound l) where
  -- where a set with one rule fewer is not feasible, this one is not
  pub out : (found : ℕ → Bool) (c : ℕ) → ((d : ℕ) → d < c → found d ≡ feasible (problem l) (numbered d)) → T (ruled_out found c)
      → feasible (problem l) (numbered c) ≡ false
  unfolding ruled_out
  out found c below t =
      let (k, h, both) = any_found short (fails_without found c) t in
      let on = and_left (numbered c k) (not (found (c - 2 ^ k))) both in
      let off = not→refuted (found (c - 2 ^ k)) (and_right (numbered c k) (not (found (c - 2 ^ k))) both) in
      let less = numbered_without c k on in
      refuted→false _ (λ s. off (true→T _ (below (c - 2 ^ k) (numbered-lt c k on) ∙ T→true _
      (less-feasible l sound (numbered (c - 2 ^ k)) (numbered c)
      (λ j g u. (without_still (numbered c) k j (subst (λ (f : ℕ → Bool). T (f j)) less u)).0) s))))
