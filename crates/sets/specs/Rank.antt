-- Where a number first stands in a list: its rank, the list's length where it does not stand there. Assumes nothing.
use Rattle.std.specs.Prelude.{◌≡◌, refl, Bool, true, false, List, [], ◌∷◌, ℕ, zero, suc, ◌+◌, ◌-◌, ◌≤◌, ◌<◌, eqb, length, get_or, drop}
use Rattle.std.proofs.Common.{sym, ap, ◌∙◌, ⊎_elim, suc-le-suc, le_refl, not-suc-le-zero, le_of_suc-le-suc, lt_of_le_of_lt, eq-or-lt_of_le, arith, eqb→eq, length-drop, get_or-drop}
use Rattle.std.proofs.Math.Dec.{eqb_refl}
use Rattle.sets.specs.Choice.{pick, true→T, T→true}

abbrev pub rank : List ℕ → ℕ → ℕ
rank [] x = 0
rank (y ∷ ys) x = let later = suc (rank ys x) in pick (eqb y x) 0 later

-- x stands in the list
abbrev pub Member : List ℕ → ℕ → Type 0
Member xs x = rank xs x < length xs

-- no number stands twice
abbrev pub Distinct : List ℕ → Type 0
Distinct xs = (i j : ℕ) → i < j → j < length xs → get_or xs i 0 ≡ get_or xs j 0 → ⊥

-- what stands at a member's rank is that member
pub get_or-rank : (xs : List ℕ) (x : ℕ) → Member xs x → get_or xs (rank xs x) 0 ≡ x
get_or-rank [] x m = absurd (not-suc-le-zero m)
get_or-rank (y ∷ ys) x m = go (eqb y x) refl (get_or-rank ys x) m
  where
    go : (b : Bool) → eqb y x ≡ b → (Member ys x → get_or ys (rank ys x) 0 ≡ x) → pick b 0 (suc (rank ys x)) < suc (length ys)
        → get_or (y ∷ ys) (pick b 0 (suc (rank ys x))) 0 ≡ x
    go true e f h = eqb→eq y x (true→T (eqb y x) e)
    go false e f h = f (le_of_suc-le-suc h)

-- a number stands nowhere before its rank
pub rank-le : (xs : List ℕ) (i : ℕ) → i < length xs → rank xs (get_or xs i 0) ≤ i
rank-le [] i h = absurd (not-suc-le-zero h)
rank-le (y ∷ ys) zero h = rw (T→true (eqb y y) (eqb_refl y)) (le_refl 0)
rank-le (y ∷ ys) (suc i) h = go (eqb y (get_or ys i 0)) (rank-le ys i (le_of_suc-le-suc h))
  where
    go : (b : Bool) → rank ys (get_or ys i 0) ≤ i → pick b 0 (suc (rank ys (get_or ys i 0))) ≤ suc i
    go true l = omega arith
    go false l = suc-le-suc l

-- so what stands in a list is a member
pub get_or-member : (xs : List ℕ) (i : ℕ) → i < length xs → Member xs (get_or xs i 0)
get_or-member xs i h = lt_of_le_of_lt (rank-le xs i h) h

-- where no number stands twice, an entry's rank is its index
pub rank-get_or : (xs : List ℕ) → Distinct xs → (i : ℕ) → i < length xs → rank xs (get_or xs i 0) ≡ i
rank-get_or xs distinct i h =
    ⊎_elim (λ e. e) (λ l. absurd (distinct (rank xs (get_or xs i 0)) i l h (get_or-rank xs (get_or xs i 0) (get_or-member xs i h))))
    (eq-or-lt_of_le (rank-le xs i h))

-- one number more, in front
pub distinct_cons : (x : ℕ) (xs : List ℕ) → (Member xs x → ⊥) → Distinct xs → Distinct (x ∷ xs)
distinct_cons x xs out tail zero zero h k = absurd (not-suc-le-zero h)
distinct_cons x xs out tail zero (suc b) h k = λ e.
    let m = get_or-member xs b (le_of_suc-le-suc k) in
    out (rw (← e) at m)
distinct_cons x xs out tail (suc a) zero h k = absurd (not-suc-le-zero h)
distinct_cons x xs out tail (suc a) (suc b) h k = tail a b (le_of_suc-le-suc h) (le_of_suc-le-suc k)

pub distinct_head : (x : ℕ) (xs : List ℕ) → Distinct (x ∷ xs) → Member xs x → ⊥
distinct_head x xs distinct m = distinct 0 (suc (rank xs x)) (omega arith) (suc-le-suc m) (sym (get_or-rank xs x m))

pub distinct_tail : (x : ℕ) (xs : List ℕ) → Distinct (x ∷ xs) → Distinct xs
distinct_tail x xs distinct i j l h = distinct (suc i) (suc j) (suc-le-suc l) (suc-le-suc h)

-- what stands in the list from index k on has a rank of at least k, and the other way round
pub drop-rank : (xs : List ℕ) → Distinct xs → (k x : ℕ) → Member (drop k xs) x → k ≤ rank xs x
drop-rank xs distinct k x m =
    let r = rank (drop k xs) x in
    let here : get_or xs (k + r) 0 ≡ x = sym (get_or-drop k xs r 0) ∙ get_or-rank (drop k xs) x m in
    let at = rank-get_or xs distinct (k + r) (omega (arith, length-drop k xs)) in
    omega (arith, ap (rank xs) here)

pub rank-drop : (xs : List ℕ) (k x : ℕ) → Member xs x → k ≤ rank xs x → Member (drop k xs) x
rank-drop xs k x m h =
    let r = rank xs x - k in
    let e : k + r ≡ rank xs x = omega arith in
    let here : get_or (drop k xs) r 0 ≡ x = rw (get_or-drop k xs r 0, e) (get_or-rank xs x m) in
    rw here at (get_or-member (drop k xs) r (omega (arith, length-drop k xs)))
