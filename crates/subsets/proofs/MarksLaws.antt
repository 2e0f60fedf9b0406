-- The members of a set as marks, written rule by rule. Assumes nothing.
use Rattle.std.specs.Prelude.{◌≡◌, refl, Bool, true, false, ◌&&◌, List, ℕ, ◌+◌, ◌^◌, ◌<◌, ◌≤◌, eqb, length, set, replicate}
use Rattle.std.proofs.Common.{sym, ap, ◌∙◌, ⊎_elim, arith, lt→ltb, ltb→lt, lt-ltb, le-ltb, eqb-true}
use Rattle.std.proofs.lemmas.Bool.{eqb-false}
use Rattle.std.proofs.Math.Path.{fun_ext}
use Rattle.sets.specs.Choice.{pick, same_test, lt_or_le}
use Rattle.sets.specs.Numbered.{numbered, numbered_beyond}
use Rattle.sets.specs.Marks.{first, marked, marked_first_none, marked_store}

-- those below k
abbrev pub members_below : ℕ → ℕ → ℕ → Bool
members_below k c j = first k j && numbered c j

pub members_none : (n c : ℕ) → marked (replicate n false) ≡ members_below 0 c
members_none n c =
    marked_first_none n
    ∙ fun_ext (λ j. let none = le-ltb j 0 (omega arith) in none ∙ sym (ap (λ (b : Bool). b && numbered c j) none))

pub members_next : (marks : List Bool) (k c : ℕ) (b : Bool) → k < length marks → b ≡ numbered c k → marked marks ≡ members_below k c
    → marked (set marks k b) ≡ members_below (k + 1) c
members_next marks k c b h here e = fun_ext (λ j. marked_store marks k b h j ∙ go j (eqb k j) refl)
  where
    go : (j : ℕ) (d : Bool) → eqb k j ≡ d → pick d b (marked marks j) ≡ members_below (k + 1) c j
    go j true f =
        let at = eqb-true k j f in
        here ∙ ap (numbered c) at ∙ ap (λ (d : Bool). d && numbered c j) (sym (lt-ltb j (k + 1) (omega arith)))
    go j false f =
        ap (λ (f : ℕ → Bool). f j) e
        ∙ ap (λ (d : Bool). d && numbered c j)
        (same_test (first k j) (first (k + 1) j) (λ t. lt→ltb j (k + 1) (omega (arith, ltb→lt j k t)))
        (λ t. lt→ltb j k (omega (arith, ltb→lt j (k + 1) t, eqb-false k j f))))

pub members_all : (m k c : ℕ) → c < 2 ^ m → m ≤ k → members_below k c ≡ numbered c
members_all m k c h over =
    fun_ext (λ j. ⊎_elim (λ l. ap (λ (d : Bool). d && numbered c j) (lt-ltb j k l))
    (λ g. ap (λ (d : Bool). d && numbered c j) (le-ltb j k g) ∙ sym (numbered_beyond m c j h (omega arith))) (lt_or_le j k))
