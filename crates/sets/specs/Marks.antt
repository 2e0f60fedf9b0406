-- An array of marks as a set of indices. Assumes nothing.
use Rattle.std.specs.Prelude.{◌≡◌, refl, Bool, true, false, List, [], ◌∷◌, ◌++◌, take, drop, ℕ, zero, suc, ◌+◌, ◌-◌, ◌≤◌, ◌<◌, eqb, ltb, length, get_or, set, replicate}
use Rattle.std.proofs.Common.{sym, ap, ◌∙◌, ⊎_elim, not-suc-le-zero, le_of_suc-le-suc, arith, ltb→lt, lt→ltb, length-append, length-drop, get_or-set_same, get_or-set_other, get_or-drop, length-take-le, ext_get_or, eqb-true, lt-ltb, le-ltb}
use Rattle.std.proofs.Math.Path.{fun_ext}
use Rattle.std.proofs.lemmas.List.{length-replicate, get_or-replicate, get_or-append_right}
use Rattle.std.proofs.Math.ListN.{get_or-eq_default, get_or-append}
use Rattle.std.proofs.lemmas.Bool.{eqb-false}
use Rattle.sets.specs.Choice.{pick, lt_or_le, same_test}
use Rattle.sets.specs.Bounded.{without}
use Rattle.sets.specs.Pad.{pad, pad-length, pad_used, pad_unused, pad-rest}

-- the indices that are marked
abbrev pub marked : List Bool → ℕ → Bool
marked marks j = get_or marks j false

-- the first n indices
abbrev pub first : ℕ → ℕ → Bool
first n j = ltb j n

-- a mark written
pub marked_store : (marks : List Bool) (k : ℕ) (b : Bool) → k < length marks → (j : ℕ)
    → marked (set marks k b) j ≡ pick (eqb k j) b (marked marks j)
marked_store marks k b h j = go (eqb k j) refl
  where
    go : (c : Bool) → eqb k j ≡ c → marked (set marks k b) j ≡ pick c b (marked marks j)
    go true e = ap (marked (set marks k b)) (sym (eqb-true k j e)) ∙ get_or-set_same marks k b false h
    go false e = get_or-set_other marks k j b false (λ f. eqb-false k j e (sym f))

-- taking a mark away
pub marked-without : (marks : List Bool) (k : ℕ) → k < length marks → marked (set marks k false) ≡ without (marked marks) k
marked-without marks k h = fun_ext (marked_store marks k false h)

-- no marks, and those of the first j
pub marked-none : (n : ℕ) → marked (replicate n false) ≡ (λ j. false)
marked-none n =
    fun_ext (λ j. ⊎_elim (λ l. get_or-replicate n j false false l)
    (λ g. get_or-eq_default (replicate n false) false (omega (arith, length-replicate n false)))
    (lt_or_le j n))

pub marked_first_none : (n : ℕ) → marked (replicate n false) ≡ first 0
marked_first_none n = marked-none n ∙ fun_ext (λ i. sym (le-ltb i 0 (omega arith)))

first_next : (k j : ℕ) → pick (eqb k j) true (first k j) ≡ first (k + 1) j
first_next k j = go (eqb k j) refl
  where
    go : (b : Bool) → eqb k j ≡ b → pick b true (ltb j k) ≡ ltb j (k + 1)
    go true f = sym (lt-ltb j (k + 1) (omega (arith, eqb-true k j f)))
    go false f =
        let apart = eqb-false k j f in
        same_test (ltb j k) (ltb j (k + 1)) (λ t. lt→ltb j (k + 1) (omega (arith, ltb→lt j k t)))
        (λ t. lt→ltb j k (⊎_elim (λ l. l) (λ l. absurd (apart (omega (arith, l, ltb→lt j (k + 1) t)))) (lt_or_le j k)))

pub marked-first : (marks : List Bool) (k : ℕ) → k < length marks → marked marks ≡ first k
    → marked (set marks k true) ≡ first (k + 1)
marked-first marks k h e =
    fun_ext (λ j. marked_store marks k true h j ∙ ap (λ (f : ℕ → Bool). pick (eqb k j) true (f j)) e ∙ first_next k j)

-- ---- the first n values of a function, as a list

abbrev pub table : {A : Type 0} → ℕ → (ℕ → A) → List A
table zero f = []
table (suc n) f = f 0 ∷ table n (λ j. f (suc j))

pub length-table : {A : Type 0} (n : ℕ) (f : ℕ → A) → length (table n f) ≡ n
length-table zero f = refl
length-table (suc n) f = ap suc (length-table n (λ j. f (suc j)))

pub get_or-table : {A : Type 0} (n : ℕ) (f : ℕ → A) (d : A) (k : ℕ) → k < n → get_or (table n f) k d ≡ f k
get_or-table zero f d k h = absurd (not-suc-le-zero h)
get_or-table (suc n) f d zero h = refl
get_or-table (suc n) f d (suc k) h = get_or-table n (λ j. f (suc j)) d k (le_of_suc-le-suc h)

-- an array of marks that has those of A, and none from m on
pub table_is : (n m : ℕ) (A : ℕ → Bool) (marks : List Bool) → length marks ≡ n → m ≤ n → marked marks ≡ A
    → ((k : ℕ) → m ≤ k → A k ≡ false)
    → marks ≡ pad n false (table m A)
table_is n m A marks long few e out =
    ext_get_or false marks (pad n false (table m A)) (long ∙ sym whole)
    (λ k h. ⊎_elim
    (λ l. at k ∙ sym (get_or-table m A false k l) ∙ sym (pad_used n false (table m A) k (omega (arith, l, length-table m A))))
    (λ g. at k ∙ out k g ∙ sym (pad_unused n false (table m A) k (omega (arith, g, length-table m A)) (omega (arith, h, long))))
    (lt_or_le k m))
  where
    at : (k : ℕ) → marked marks k ≡ A k
    at k = ap (λ (f : ℕ → Bool). f k) e

    whole : length (pad n false (table m A)) ≡ n
    whole = pad-length n false (table m A) (omega (arith, few, length-table m A))

pub marked_padded : (n m : ℕ) (A : ℕ → Bool) → ((k : ℕ) → m ≤ k → A k ≡ false) → marked (pad n false (table m A)) ≡ A
marked_padded n m A out =
    fun_ext (λ k. ⊎_elim
    (λ l. pad_used n false (table m A) k (omega (arith, l, length-table m A)) ∙ get_or-table m A false k l)
    (λ g. pad-rest n false (table m A) k (omega (arith, g, length-table m A)) ∙ sym (out k g))
    (lt_or_le k m))

-- an array of n marks is the list of them, and a list of marks that has all has them
pub marks_table : (n : ℕ) (A : ℕ → Bool) (marks : List Bool) → length marks ≡ n → marked marks ≡ A → marks ≡ table n A
marks_table n A marks long e =
    ext_get_or false marks (table n A) (long ∙ sym (length-table n A))
    (λ k h. ap (λ (f : ℕ → Bool). f k) e ∙ sym (get_or-table n A false k (omega (arith, h, long))))

pub marked-table : (n : ℕ) (A : ℕ → Bool) → ((k : ℕ) → n ≤ k → A k ≡ false) → marked (table n A) ≡ A
marked-table n A out =
    fun_ext (λ k. ⊎_elim (get_or-table n A false k)
    (λ g. get_or-eq_default (table n A) false (omega (arith, g, length-table n A)) ∙ sym (out k g)) (lt_or_le k n))

-- an array of n entries whose first m a loop wrote over, where all are then those of f
pub written-table : {A : Type 0} (n m : ℕ) (f : ℕ → A) (d : A) (front old : List A) → length front ≡ m → m ≤ n → length old ≡ n
    → ((k : ℕ) → k < m → get_or front k d ≡ f k) → ((k : ℕ) → m ≤ k → k < n → get_or old k d ≡ f k) → front ++ drop m old ≡ table n f
written-table n m f d front old cut few long done rest =
    ext_get_or d (front ++ drop m old) (table n f) (whole ∙ sym (length-table n f))
    (λ k h.
    let inside : k < n = omega (arith, h, whole) in
    ⊎_elim (under k) (over k inside) (lt_or_le k m) ∙ sym (get_or-table n f d k inside))
  where
    whole : length (front ++ drop m old) ≡ n
    whole = omega (arith, length-append front (drop m old), length-drop m old)

    under : (k : ℕ) → k < m → get_or (front ++ drop m old) k d ≡ f k
    under k l = get_or-append front (drop m old) d k (omega (arith, l, cut)) ∙ done k l

    over : (k : ℕ) → k < n → m ≤ k → get_or (front ++ drop m old) k d ≡ f k
    over k h g =
        let at : m + (k - m) ≡ k = omega arith in
        get_or-append_right front (drop m old) m k d cut g ∙ get_or-drop m old (k - m) d ∙ rw at (rest k g h)

-- an array whose first n marks were filled
pub marked_filled : (n all : ℕ) → n ≤ all
    → marked (replicate (length (take n (replicate all false))) true ++ drop n (replicate all false)) ≡ first n
marked_filled n all few = fun_ext (λ j. ⊎_elim (front j) (back j) (lt_or_le j n))
  where
    filled : List Bool
    filled = replicate (length (take n (replicate all false))) true

    cut : length (take n (replicate all false)) ≡ n
    cut = length-take-le n (replicate all false) (omega (arith, length-replicate all false))

    long : length filled ≡ n
    long = length-replicate (length (take n (replicate all false))) true ∙ cut

    front : (j : ℕ) → j < n → marked (filled ++ drop n (replicate all false)) j ≡ ltb j n
    front j h =
        get_or-append filled (drop n (replicate all false)) false j (omega (arith, long))
        ∙ get_or-replicate (length (take n (replicate all false))) j true false (omega (arith, cut))
        ∙ sym (lt-ltb j n h)

    back : (j : ℕ) → n ≤ j → marked (filled ++ drop n (replicate all false)) j ≡ ltb j n
    back j h =
        get_or-append_right filled (drop n (replicate all false)) n j false long h
        ∙ get_or-drop n (replicate all false) (j - n) false
        ∙ ap (λ (f : ℕ → Bool). f (n + (j - n))) (marked-none all)
        ∙ sym (le-ltb j n h)
