-- An order level by level: who is left without a level, and that with rules between its tasks it is valid exactly when each task
-- may take its own level. For any meaning of a deadline met. Assumes nothing.
use Rattle.std.specs.Prelude.{◌≡◌, Bool, ◌&&◌, List, [], ◌∷◌, ℕ, suc, ◌+◌, ◌<◌, T, ltb, eqb, length, get_or, drop}
use Rattle.std.proofs.Math.Path.{refl, fun_ext}
use Rattle.std.proofs.Common.{sym, ap, subst, ◌∙◌, ⊎_elim, suc-le-suc, not-suc-le-zero, eq-or-lt_of_le, eq-zero-or-pos, le→leb, lt→ltb, drop-cons, leb-false}
use Rattle.std.proofs.Math.Bool.{true, false}
use native.Mathlib.Omega.{arith}
use Rattle.std.proofs.Math.Dec.{leb, leb→le, ltb→lt, leb-suc-suc, leb-suc-zero}
use Rattle.sets.specs.Choice.{pick, refuted→false, decided, lt_or_le, same_test, and_intro, and_left, and_right}
use Rattle.sets.specs.Bounded.{Subset, without, without_still, without_other, count, count_less, count_but, count_whole, count-some, count_pos}
use Rattle.sets.specs.Rank.{rank, Member, Distinct, get_or-rank, rank-get_or, drop-rank, rank-drop, distinct_head, distinct_tail, distinct_cons}
use Rattle.taskset.specs.declared.Rule.{Rule}
use Rattle.taskset.specs.Model.{rule_at}
use Rattle.assignment.specs.Orders.{IsOrder, hp, Valid}
use Rattle.assignment.specs.Canonical.{left_at, MayTake, EachMayTake}
use Rattle.assignment.specs.Audsley.{unassigned}
use Rattle.assignment.specs.LateTasks.{EachMay}

-- ---- who has a level

module _ (n : ℕ) where
  pub unassigned_of : (low : List ℕ) (i : ℕ) → i < n → (Member low i → ⊥) → T (unassigned n low i)
  unfolding unassigned
  unassigned_of low i h out =
      and_intro (ltb i n) (leb (length low) (rank low i)) (lt→ltb i n h)
      (⊎_elim (λ t. t) (λ r. absurd (out (leb-false (length low) (rank low i) (refuted→false (leb (length low) (rank low i)) r))))
      (decided (leb (length low) (rank low i))))

  pub unassigned_is : (low : List ℕ) (i : ℕ) → T (unassigned n low i) → (i < n) × (Member low i → ⊥)
  unfolding unassigned
  unassigned_is low i t = (
    ltb→lt i n (and_left (ltb i n) (leb (length low) (rank low i)) t),
    λ m. let h = leb→le (length low) (rank low i) (and_right (ltb i n) (leb (length low) (rank low i)) t) in omega arith,
  )

  pub assigned : (low : List ℕ) (i : ℕ) → i < n → (T (unassigned n low i) → ⊥) → Member low i
  assigned low i h out = ⊎_elim (λ m. m) (λ g. absurd (out (unassigned_of low i h (λ m. omega arith)))) (lt_or_le (rank low i) (length low))

  -- one level more leaves all but its task
  pub unassigned_cons : (low : List ℕ) (i : ℕ) → unassigned n (i ∷ low) ≡ without (unassigned n low) i
  unfolding unassigned
  unassigned_cons low i = fun_ext (λ j. go j (eqb i j) (ltb j n))
    where
      go : (j : ℕ) (b c : Bool)
          → (c && leb (suc (length low)) (pick b 0 (suc (rank low j)))) ≡ pick b false (c && leb (length low) (rank low j))
      go j true true = leb-suc-zero (length low)
      go j true false = refl
      go j false true = leb-suc-suc (length low) (rank low j)
      go j false false = refl

  -- the tasks without a level and those with one make up all
  pub levels_count : (low : List ℕ) → ((k : ℕ) → k < length low → get_or low k 0 < n) → Distinct low
      → count n (unassigned n low) + length low ≡ n
  levels_count [] only once =
      let whole = count_whole n (unassigned n []) (λ j h. unassigned_of [] j h not-suc-le-zero) in
      omega arith
  levels_count (i ∷ low) only once =
      let all = unassigned n low in
      let inside = only 0 (omega arith) in
      let here = unassigned_of low i inside (distinct_head i low once) in
      let less = count_less n (without all i) all (λ j l s. (without_still all i j s).0) i inside here (λ s. (without_still all i i s).1 refl) in
      let but = count_but n (without all i) all i (λ j l s apart. without_other all i j (λ e. apart (sym e)) s) in
      omega (
        arith,
        levels_count low (λ k h. only (suc k) (suc-le-suc h)) (distinct_tail i low once),
        ap (count n) (unassigned_cons low i),
      )

-- ---- levels that tasks might take

module _ (n : ℕ) (rules : List Rule) (Meets : ℕ → (ℕ → Bool) → Type 0) (active : ℕ → Bool) where
  -- they are some of the n tasks, each once
  pub each_only : (low : List ℕ) → EachMay n rules Meets active low → (k : ℕ) → k < length low → get_or low k 0 < n
  each_only low each k h = (unassigned_is n (drop (suc k) low) (get_or low k 0) (each k h).is_left).0

  each_once : (low : List ℕ) → EachMay n rules Meets active low → Distinct low
  each_once [] each = λ i j l h. absurd (not-suc-le-zero h)
  each_once (i ∷ low) each =
      distinct_cons i low (unassigned_is n low i (each 0 (omega arith)).is_left).1 (each_once low (λ k h. each (suc k) (suc-le-suc h)))

  -- so the tasks without a level and those with one make up all
  pub each_count : (low : List ℕ) → EachMay n rules Meets active low → count n (unassigned n low) + length low ≡ n
  each_count low each = levels_count n low (each_only low each) (each_once low each)

  -- and with every level filled nobody is left, and it is an order
  pub none_left : (low : List ℕ) → EachMay n rules Meets active low → length low ≡ n → (i : ℕ) → T (unassigned n low i) → ⊥
  none_left low each whole i t =
      omega (arith, each_count low each, count_pos n (unassigned n low) i (unassigned_is n low i t).0 t)

  pub each_order : (low : List ℕ) → EachMay n rules Meets active low → length low ≡ n → IsOrder n low
  each_order low each whole =
      record { only = each_only low each; every = λ i h. assigned n low i h (none_left low each whole i); once = each_once low each }

-- ---- fewer rules, and another meaning of a deadline met that holds too

-- keep an order valid
pub valid_other : {n : ℕ} {rules : List Rule} {M N : ℕ → (ℕ → Bool) → Type 0} {less more : ℕ → Bool} {order : List ℕ}
    → ((i : ℕ) (above : ℕ → Bool) → M i above → N i above) → Subset (length rules) less more
    → Valid n rules M more order → Valid n rules N less order
valid_other change fewer v =
    record { is_order = v.is_order; keeps = λ k h on. v.keeps k h (fewer k h on); meets = λ i h. change _ _ (v.meets i h) }

-- and let the same tasks take a level
pub may_other : {rules : List Rule} {M N : ℕ → (ℕ → Bool) → Type 0} {more less left : ℕ → Bool} {i : ℕ}
    → ((i : ℕ) (above : ℕ → Bool) → M i above → N i above) → Subset (length rules) less more
    → MayTake rules M more left i → MayTake rules N less left i
may_other change fewer m = record { is_left = m.is_left; below = λ k h on. m.below k h (fewer k h on); meets = change _ _ m.meets }

-- ---- the levels of an order

module _ {n : ℕ} {order : List ℕ} (is : IsOrder n order) where
  pub order-length : length order ≡ n
  order-length =
      let left = unassigned n order in
      let all = levels_count n order is.only is.once in
      ⊎_elim (λ none. omega arith)
      (λ some. let i = count-some n left some in absurd ((unassigned_is n order i.0 i.2).1 (is.every i.0 i.1)))
      (eq-zero-or-pos (count n left))

  -- who has no level yet when a level is filled
  pub left-unassigned : (k : ℕ) → k < length order → left_at order k ≡ unassigned n (drop (suc k) order)
  left-unassigned k h = fun_ext (λ j. same_test (left_at order k j) (unassigned n rest j) (one j) (other j))
    where
      rest : List ℕ
      rest = drop (suc k) order

      one : (j : ℕ) → T (left_at order k j) → T (unassigned n rest j)
      one j t =
          let early = leb→le (rank order j) k t in
          let member : Member order j = omega arith in
          unassigned_of n rest j (omega (arith, get_or-rank order j member, is.only (rank order j) member))
          (λ m. omega (arith, drop-rank order is.once (suc k) j m))

      other : (j : ℕ) → T (unassigned n rest j) → T (left_at order k j)
      other j t =
          let un = unassigned_is n rest j t in
          le→leb (rank order j) k
          (⊎_elim (λ l. absurd (un.1 (rank-drop order (suc k) j (is.every j un.0) l))) (λ e. e) (lt_or_le k (rank order j)))

  -- a task has above it the others that had none
  before_left : (k : ℕ) → k < length order → hp order (get_or order k 0) ≡ without (left_at order k) (get_or order k 0)
  before_left k h = fun_ext (λ j. same_test (hp order i j) (without (left_at order k) i j) (one j) (other j))
    where
      i : ℕ
      i = get_or order k 0

      at : rank order i ≡ k
      at = rank-get_or order is.once k h

      one : (j : ℕ) → T (hp order i j) → T (without (left_at order k) i j)
      one j t =
          let first = ltb→lt (rank order j) (rank order i) t in
          without_other (left_at order k) i j (λ e. omega (arith, ap (rank order) e)) (le→leb (rank order j) k (omega (arith, at)))

      other : (j : ℕ) → T (without (left_at order k) i j) → T (hp order i j)
      other j t =
          let still = without_still (left_at order k) i j t in
          let early = leb→le (rank order j) k still.0 in
          lt→ltb (rank order j) (rank order i)
          (⊎_elim (λ e. absurd (still.1 (ap (λ (q : ℕ). get_or order q 0) (sym e) ∙ get_or-rank order j (omega arith))))
          (λ l. omega (arith, at, l))
          (eq-or-lt_of_le early))

  pub before_unassigned : (k : ℕ) → k < length order → hp order (get_or order k 0) ≡ unassigned n (drop k order)
  before_unassigned k h =
      let i = get_or order k 0 in
      before_left k h
      ∙ ap (λ (left : ℕ → Bool). without left i) (left-unassigned k h)
      ∙ sym (unassigned_cons n (drop (suc k) order) i)
      ∙ ap (unassigned n) (sym (drop-cons order k 0 h))

  -- ---- valid, level by level

  module _ {rules : List Rule} {Meets : ℕ → (ℕ → Bool) → Type 0} {active : ℕ → Bool} where
    pub valid_each : Valid n rules Meets active order → EachMayTake rules Meets active order
    valid_each v k h =
        let i = get_or order k 0 in
        let at = rank-get_or order is.once k h in
        record {
          is_left = le→leb (rank order i) k (omega (arith, at));
          below = λ m inside on e t.
              omega (arith, at, v.keeps m inside on, ap (rank order) e, leb→le (rank order (rule_at rules m).lower.0) k t);
          meets = subst (Meets i) (before_left k h) (v.meets i (is.only k h));
        }

    pub each_valid : ((m : ℕ) → m < length rules → (rule_at rules m).higher.0 < n) → EachMayTake rules Meets active order
        → Valid n rules Meets active order
    each_valid indices each =
        record {
          is_order = is;
          keeps = λ m inside on.
              let u = (rule_at rules m).higher.0 in
              let l = (rule_at rules m).lower.0 in
              let here = is.every u (indices m inside) in
              ⊎_elim (λ first. first)
              (λ late.
              absurd
              ((each (rank order u) here).below m inside on (sym (get_or-rank order u here)) (le→leb (rank order l) (rank order u) late)))
              (lt_or_le (rank order u) (rank order l));
          meets = λ i h.
              let here = is.every i h in
              subst (λ (j : ℕ). Meets j (hp order j)) (get_or-rank order i here)
              (subst (Meets (get_or order (rank order i) 0)) (sym (before_left (rank order i) here)) (each (rank order i) here).meets);
        }
