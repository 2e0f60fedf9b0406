-- The rules that are not kept, marked one after another. Assumes nothing.
use Rattle.std.specs.Prelude.{◌≡◌, refl, Bool, true, false, ◌&&◌, not, List, ℕ, ◌+◌, ◌≤◌, ◌<◌, eqb, ltb, length, set, replicate}
use Rattle.std.proofs.Math.Path.{fun_ext}
use Rattle.std.proofs.Math.Dec.{eqb_refl}
use Rattle.std.proofs.Common.{sym, ap, ◌∙◌, ⊎_elim, arith, ext_get_or, eqb→eq, lt-ltb, le-ltb}
use Rattle.sets.specs.Choice.{pick, true→T, false→refuted, lt_or_le}
use Rattle.sets.specs.Bounded.{others}
use Rattle.sets.specs.Marks.{marked, marked-none, marked_store, table, length-table, get_or-table, table_is}
use Rattle.sets.specs.Pad.{pad}
use Rattle.taskset.specs.Refusals.{max_rules}
use Rattle.relaxation.specs.Relaxing.{dropped_of}

-- the first n rules that are not kept
abbrev pub first_others : (ℕ → Bool) → ℕ → ℕ → Bool
first_others kept n j = ltb j n && others kept j

pub others_none : (kept : ℕ → Bool) → marked (replicate max_rules false) ≡ first_others kept 0
others_none kept = marked-none max_rules ∙ fun_ext (λ j. rw (le-ltb j 0 (omega arith)) refl)

pub others_next : (kept : ℕ → Bool) (k : ℕ) (marks : List Bool) → k < length marks → marked marks ≡ first_others kept k
    → marked (set marks k (not (kept k))) ≡ first_others kept (k + 1)
others_next kept k marks inside e = fun_ext (λ j. marked_store marks k (not (kept k)) inside j ∙ go j (eqb k j) refl)
  where
    under : (j : ℕ) → (k ≡ j → ⊥) → ltb j k ≡ ltb j (k + 1)
    under j apart =
        ⊎_elim (λ l. lt-ltb j k l ∙ sym (lt-ltb j (k + 1) (omega arith)))
        (λ g. le-ltb j k g ∙ sym (le-ltb j (k + 1) (⊎_elim (λ more. omega arith) (λ less. absurd (apart (omega (arith, g, less)))) (lt_or_le k j))))
        (lt_or_le j k)

    go : (j : ℕ) (b : Bool) → eqb k j ≡ b → pick b (not (kept k)) (marked marks j) ≡ first_others kept (k + 1) j
    go j true t = let same : k ≡ j = eqb→eq k j (true→T _ t) in rw (← same, lt-ltb k (k + 1) (omega arith)) refl
    go j false t =
        ap (λ (f : ℕ → Bool). f j) e
        ∙ ap (λ (b : Bool). b && others kept j) (under j (λ same. false→refuted (eqb k j) t (rw (← same) (eqb_refl k))))

pub others_all : (m : ℕ) (kept : ℕ → Bool) (marks : List Bool) → length marks ≡ max_rules → m ≤ max_rules → marked marks ≡ first_others kept m
    → marks ≡ dropped_of m kept
others_all m kept marks long few e =
    table_is max_rules m (first_others kept m) marks long few e (λ k h. rw (le-ltb k m h) refl)
    ∙ ap (pad max_rules false)
    (ext_get_or false (table m (first_others kept m)) (table m (others kept)) (length-table m (first_others kept m) ∙ sym (length-table m (others kept)))
    (λ k h.
    let inside : k < m = omega (arith, h, length-table m (first_others kept m)) in
    get_or-table m (first_others kept m) false k inside
    ∙ rw (lt-ltb k m inside) refl
    ∙ sym (get_or-table m (others kept) false k inside)))
