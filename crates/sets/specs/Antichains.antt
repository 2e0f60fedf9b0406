-- How many of the sets of m things a family has at most of which none is part of another: Sperner's bound. All sets are put into
-- chains, in each of which every set is part of the next, and of a chain such a family has at most one. Assumes nothing.
use Rattle.std.specs.Prelude.{◌≡◌, refl, Bool, true, false, ℕ, zero, suc, ◌+◌, ◌-◌, ◌*◌, ◌^◌, ◌≤◌, ◌<◌, T, leb, eqb}
use Rattle.std.specs.Int.{bit_at}
use Rattle.std.proofs.Common.{sym, ap, subst, ◌∙◌, ⊎_elim, eq-zero-or-pos, le_refl, add-zero, add-suc, arith, le-leb, leb→le}
use Rattle.std.proofs.Math.Nat.{pow-succ'}
use Rattle.std.proofs.lemmas.Bool.{lt-leb}
use Rattle.std.proofs.Math.Path.{fun_ext}
use Rattle.std.proofs.lemmas.Nat.Bits.{bit_at_cat_low, bit_at_cat_high}
use Rattle.sets.specs.Choice.{pick, true→T, false→refuted, lt_or_le}
use Rattle.sets.specs.Bounded.{every, all, all_at, count, count-some, count-zero, count_but}
use Rattle.sets.specs.Sum.{sum, sum-none, sum_more, sum_same}
use Rattle.sets.specs.Numbered.{numbered, numbered_beyond}

-- A chain of n sets, and r more things that may be in a set: so many chains there are of all the sets that have the chain's things and
-- some of these. With one thing more, the sets without it and after them the last one with it are a chain; the others with it are one.
unfoldable pub chains : ℕ → ℕ → ℕ
chains zero zero = 0
chains zero (suc n) = 1
chains (suc r) zero = 0
chains (suc r) (suc n) = chains r (suc (suc n)) + chains r n

-- ---- counting

-- the numbers below a, and those from a on
count_split : (a b : ℕ) (p : ℕ → Bool) → count (a + b) p ≡ count a p + count b (λ k. p (a + k))
unfolding count
count_split a zero p = rw (add-zero a) (omega arith)
count_split a (suc b) p = rw (add-suc a b) (omega (arith, count_split a b p))

-- at most one, where no two are in
count_one : (n : ℕ) (p : ℕ → Bool) → ((i j : ℕ) → i < j → j < n → T (p i) → T (p j) → ⊥) → count n p ≤ 1
count_one n p apart = ⊎_elim (λ z. omega (arith, z)) some (eq-zero-or-pos (count n p))
  where
    some : 0 < count n p → count n p ≤ 1
    some h =
        let (k, l, t) = count-some n p h in
        let none = count-zero n (λ j. false) (λ j g s. s) in
        let most = count_but n (λ j. false) p k
        (λ j g s e. ⊎_elim (λ less. apart j k less l s t) (λ more. ⊎_elim (λ less. apart k j less g t s) (λ le. e (omega (arith, le, more))) (lt_or_le k j)) (lt_or_le j k)) in
        omega (arith, none, most)

-- ---- the sets of a chain with more things

-- of n sets with r more things: how many of them the family has that f gives, by the set and the number of the things
abbrev members : ℕ → ℕ → (ℕ → ℕ → Bool) → ℕ
members r n f = sum n every (λ i. count (2 ^ r) (f i))

module _ (r : ℕ) (f : ℕ → ℕ → Bool) where
  -- with the next thing; and without it, and after them set n with it
  abbrev with_next : ℕ → ℕ → Bool
  with_next i x = f i (2 ^ r + x)

  abbrev up_to : ℕ → ℕ → ℕ → Bool
  up_to n i x = pick (leb i n) (f i x) (with_next n x)

  halves : (n : ℕ) → members (suc r) n f ≡ members r n f + members r n with_next
  unfolding sum
  halves zero = refl
  halves (suc n) =
      let here = ap (λ (k : ℕ). count k (f n)) (pow-succ' 2 r ∙ twice) ∙ count_split (2 ^ r) (2 ^ r) (f n) in
      omega (arith, here, halves n)
    where
      twice : 2 * 2 ^ r ≡ 2 ^ r + 2 ^ r
      twice = omega arith

  up_to_front : (n : ℕ) → members r (suc n) (up_to n) ≡ members r (suc n) f
  up_to_front n =
      sum_same (suc n) every every (λ i. count (2 ^ r) (up_to n i)) (λ i. count (2 ^ r) (f i)) (λ i h. refl)
      (λ i h. ap (count (2 ^ r)) (fun_ext (λ x. rw (le-leb i n (omega (arith, h))) refl)))

  -- so all are in the two
  parted : (n : ℕ) → members (suc r) (suc n) f ≡ members r (suc (suc n)) (up_to n) + members r n with_next
  unfolding sum
  parted n =
      let last : count (2 ^ r) (up_to n (suc n)) ≡ count (2 ^ r) (with_next n) =
      ap (count (2 ^ r)) (fun_ext (λ x. rw (lt-leb (suc n) n (omega arith)) refl)) in
      omega (arith, halves (suc n), up_to_front n, last)

-- ---- where of no two one is below the other, by any relation of which the laws below hold

module _ (Below : ℕ → ℕ → Type 0) (none : Below 0 0)
    (alone : (r x y : ℕ) → x < 2 ^ r → y < 2 ^ r → Below x y → Below x (2 ^ r + y))
    (both : (r x y : ℕ) → x < 2 ^ r → y < 2 ^ r → Below x y → Below (2 ^ r + x) (2 ^ r + y)) where
  -- of two that the family has, by sets of a chain and things more, none is part of the other
  abbrev Apart : ℕ → ℕ → (ℕ → ℕ → Bool) → Type 0
  Apart r n f = (i j x y : ℕ) → i ≤ j → j < n → x < 2 ^ r → y < 2 ^ r → Below x y → T (f i x) → T (f j y) → (i ≡ j) × (x ≡ y)

  with_apart : (r n : ℕ) (f : ℕ → ℕ → Bool) → Apart (suc r) (suc n) f → Apart r n (with_next r f)
  with_apart r n f apart i j x y le h k l part s t =
      let e = apart i j (2 ^ r + x) (2 ^ r + y) le (omega (arith, h)) (omega (arith, k, pow-succ' 2 r)) (omega (arith, l, pow-succ' 2 r)) (both r x y k l part) s t in
      (e.0, omega (arith, e.1))

  up_to_apart : (r n : ℕ) (f : ℕ → ℕ → Bool) → Apart (suc r) (suc n) f → Apart r (suc (suc n)) (up_to r f n)
  up_to_apart r n f apart i j x y le h k l part s t = go (leb i n) (leb j n) refl refl s t
    where
      go : (a b : Bool) → leb i n ≡ a → leb j n ≡ b → T (pick a (f i x) (with_next r f n x)) → T (pick b (f j y) (with_next r f n y))
          → (i ≡ j) × (x ≡ y)
      go true true d e s t =
          apart i j x y le (let u = leb→le j n (true→T _ e) in omega (arith, u)) (omega (arith, k, pow-succ' 2 r)) (omega (arith, l, pow-succ' 2 r)) part s t
      go true false d e s t =
          let low = leb→le i n (true→T _ d) in
          let same = apart i n x (2 ^ r + y) low (omega arith) (omega (arith, k, pow-succ' 2 r)) (omega (arith, l, pow-succ' 2 r)) (alone r x y k l part) s t in
          absurd (omega (arith, k, same.1))
      go false true d e s t =
          let low = leb→le j n (true→T _ e) in
          absurd (false→refuted (leb i n) d (true→T _ (le-leb i n (omega (arith, le, low)))))
      go false false d e s t =
          let same = apart n n (2 ^ r + x) (2 ^ r + y) (le_refl n) (omega arith) (omega (arith, k, pow-succ' 2 r)) (omega (arith, l, pow-succ' 2 r)) (both r x y k l part) s t in
          let i_high : n < i = ⊎_elim (λ g. g) (λ g. absurd (false→refuted (leb i n) d (true→T _ (le-leb i n g)))) (lt_or_le n i) in
          (omega (arith, i_high, le, h), omega (arith, same.1))

  members_none : (r : ℕ) (f : ℕ → ℕ → Bool) → members r 0 f ≡ 0
  members_none r f = sum-none every (λ i. count (2 ^ r) (f i))

  -- one set of a chain alone
  single : (n : ℕ) (f : ℕ → ℕ → Bool) → members 0 n f ≡ count n (λ i. f i 0)
  unfolding sum count
  single zero f = refl
  single (suc n) f = omega (arith, single n f)

  -- so it has at most one of each chain
  chain_bound : (r n : ℕ) (f : ℕ → ℕ → Bool) → Apart r n f → members r n f ≤ chains r n
  unfolding chains
  chain_bound zero zero f apart = omega (arith, single 0 f, count-zero 0 (λ i. f i 0) (λ i h s. absurd (omega (arith, h))))
  chain_bound zero (suc n) f apart =
      let one = count_one (suc n) (λ i. f i 0)
      (λ i j less h s t. let same = apart i j 0 0 (omega (arith, less)) h (omega arith) (omega arith) none s t in omega (arith, same.0, less)) in
      omega (arith, single (suc n) f, one)
  chain_bound (suc r) zero f apart = omega (arith, members_none (suc r) f)
  chain_bound (suc r) (suc n) f apart =
      let more = chain_bound r (suc (suc n)) (up_to r f n) (up_to_apart r n f apart) in
      let fewer = chain_bound r n (with_next r f) (with_apart r n f apart) in
      omega (arith, parted r f n, more, fewer)

  antichain_few : (m : ℕ) (family : ℕ → Bool)
      → ((x y : ℕ) → x < 2 ^ m → y < 2 ^ m → Below x y → T (family x) → T (family y) → x ≡ y) → count (2 ^ m) family ≤ chains m 1
  antichain_few m family apart =
      let most = chain_bound m 1 (λ i. family)
      (λ i j x y le h k l part s t. (omega (arith, le, h), apart x y k l part s t)) in
      omega (arith, sum_more 0 every (λ i. count (2 ^ m) family), members_none m (λ i. family), most)

-- ---- sets by their numbers

-- thing r more
with_low : (r x k : ℕ) → k < r → numbered (2 ^ r + x) k ≡ numbered x k
unfolding numbered
with_low r x k h =
    let one : 2 ^ r + x ≡ 1 * 2 ^ r + x = omega arith in
    ap (λ (b : ℕ). eqb b 1) (ap (λ (c : ℕ). bit_at c k) one ∙ bit_at_cat_low 1 r x k h)

with_high : (r x y k : ℕ) → x < 2 ^ r → y < 2 ^ r → r ≤ k → numbered (2 ^ r + x) k ≡ numbered (2 ^ r + y) k
unfolding numbered
with_high r x y k h l over = ap (λ (b : ℕ). eqb b 1) (high x h ∙ sym (high y l))
  where
    high : (x : ℕ) → x < 2 ^ r → bit_at (2 ^ r + x) k ≡ bit_at 1 (k - r)
    high x h = let one : 2 ^ r + x ≡ 1 * 2 ^ r + x = omega arith in ap (λ (c : ℕ). bit_at c k) one ∙ bit_at_cat_high 1 r x k h over

-- the set x is part of the set y
abbrev pub Part : ℕ → ℕ → Type 0
Part x y = (k : ℕ) → T (numbered x k) → T (numbered y k)

part_alone : (r x y : ℕ) → x < 2 ^ r → y < 2 ^ r → Part x y → Part x (2 ^ r + y)
part_alone r x y h l part k t =
    ⊎_elim (λ low. subst (λ (b : Bool). T b) (sym (with_low r y k low)) (part k t))
    (λ over. absurd (false→refuted (numbered x k) (numbered_beyond r x k h over) t)) (lt_or_le k r)

part_both : (r x y : ℕ) → x < 2 ^ r → y < 2 ^ r → Part x y → Part (2 ^ r + x) (2 ^ r + y)
part_both r x y h l part k t =
    ⊎_elim
    (λ low. subst (λ (b : Bool). T b) (sym (with_low r y k low)) (part k (subst (λ (b : Bool). T b) (with_low r x k low) t)))
    (λ over. subst (λ (b : Bool). T b) (with_high r x y k h l over) t)
    (lt_or_le k r)

-- a family of sets of m things of which none is part of another
pub antichain-le : (m : ℕ) (family : ℕ → Bool)
    → ((x y : ℕ) → x < 2 ^ m → y < 2 ^ m → Part x y → T (family x) → T (family y) → x ≡ y) → count (2 ^ m) family ≤ chains m 1
antichain-le = antichain_few Part (λ k t. t) part_alone part_both

-- of at most 12 things it has at most 924
up_to_twelve : T (all 13 (λ m. leb (chains m 1) 924))
unfolding all chains
up_to_twelve = tt

pub chains_twelve : (m : ℕ) → m ≤ 12 → chains m 1 ≤ 924
chains_twelve m h = leb→le (chains m 1) 924 (all_at 13 (λ k. leb (chains k 1) 924) up_to_twelve m (omega (arith, h)))
