-- The canonical order, for any meaning of a deadline met: it is the only one, and the greatest of all valid ones when read from
-- the lowest level up. And for any test: it is the one that the assignment finds. Assumes nothing.
use Rattle.std.specs.Prelude.{◌≡◌, Bool, List, ◌∷◌, ◌⊎◌, ◌↔◌, ℕ, zero, suc, ◌+◌, ◌-◌, ◌≤◌, ◌<◌, T, length, get_or, drop}
use Rattle.std.proofs.Common.{sym, ap, ap₂, subst, ◌∙◌, inl, inr, ⊎_elim, not-suc-le-zero, le_of_suc-le-suc, eq-or-lt_of_le, arith, drop-cons, get_or-drop}
use Rattle.std.proofs.Math.Seq.{drop-length}
use Rattle.sets.specs.Choice.{lt_or_le}
use Rattle.sets.specs.Bounded.{IsGreatest}
use Rattle.taskset.specs.declared.Rule.{Rule}
use Rattle.assignment.specs.Orders.{IsOrder}
use Rattle.assignment.specs.Canonical.{left_at, MayTake, EachMayTake, Canonical, Greater}
use Rattle.assignment.specs.Audsley.{Problem, Passes, unassigned, may_take, assign, Filled}
use Rattle.assignment.specs.Levels.{unassigned_is, may_other, order-length, left-unassigned}
use Rattle.assignment.specs.Decision.{may_test, filled_order, filled_each, assign_filled, assign_keeps}

-- ---- read from the lowest level up

-- below the level where they differ the two are the same
same_at : {a b : List ℕ} (g : Greater a b) (j : ℕ) → g.level < j → get_or a j 0 ≡ get_or b j 0
same_at {a} {b} g j h =
    let from = suc g.level in
    let on = j - from in
    let at : from + on ≡ j = omega arith in
    ap (λ (k : ℕ). get_or a k 0) (sym at)
    ∙ sym (get_or-drop from a on 0)
    ∙ ap (λ (xs : List ℕ). get_or xs on 0) g.same
    ∙ get_or-drop from b on 0
    ∙ ap (λ (k : ℕ). get_or b k 0) at

-- so not both are greater
pub greater_once : {a b : List ℕ} → Greater a b → Greater b a → ⊥
greater_once {a} {b} g h =
    ⊎_elim (λ l. omega (arith, same_at g h.level l, h.there))
    (λ le. ⊎_elim (λ e. omega (arith, g.there, h.there, ap (λ (k : ℕ). get_or a k 0) e, ap (λ (k : ℕ). get_or b k 0) e))
    (λ l. omega (arith, same_at h g.level l, g.there)) (eq-or-lt_of_le le))
    (lt_or_le g.level h.level)

module _ {n : ℕ} {rules : List Rule} {Meets : ℕ → (ℕ → Bool) → Type 0} {active : ℕ → Bool} where
  -- an order whose tasks may take their levels is the canonical one, or less
  module _ {order other : List ℕ} (c : Canonical n rules Meets active order) (is : IsOrder n other)
      (each : EachMayTake rules Meets active other) where
    abbrev From : ℕ → Type 0
    From k = (drop k other ≡ drop k order) ⊎ Greater order other

    long : length other ≡ length order
    long = order-length is ∙ sym (order-length c.is_order)

    -- one level up: who takes it there may take it here
    up : (k : ℕ) → k < length order → drop (suc k) other ≡ drop (suc k) order → From k
    up k h e =
        let left : left_at other k ≡ left_at order k =
        left-unassigned is k (omega (arith, long)) ∙ ap (unassigned n) e ∙ sym (left-unassigned c.is_order k h) in
        let may = subst (λ (l : ℕ → Bool). MayTake rules Meets active l (get_or other k 0)) left (each k (omega (arith, long))) in
        ⊎_elim
        (λ same.
        inl (drop-cons other k 0 (omega (arith, long)) ∙ ap₂ (λ (x : ℕ) (xs : List ℕ). x ∷ xs) same e ∙ sym (drop-cons order k 0 h)))
        (λ less. inr (record { level = k; inside = (h, omega (arith, long)); same = sym e; there = less }))
        (eq-or-lt_of_le (c.greatest k h (get_or other k 0) may))

    upward : (k : ℕ) → k ≤ length order → From k → From 0
    upward zero h from = from
    upward (suc k) h (inl e) = upward k (omega arith) (up k h e)
    upward (suc k) h (inr g) = inr g

    pub canonical_greatest : (other ≡ order) ⊎ Greater order other
    canonical_greatest =
        upward (length order) (omega arith)
        (inl (ap (λ (k : ℕ). drop k other) (sym long) ∙ drop-length other ∙ sym (drop-length order)))

  -- so there is one such order at most
  pub canonical_unique : {one other : List ℕ} → Canonical n rules Meets active one → Canonical n rules Meets active other → one ≡ other
  canonical_unique a b =
      ⊎_elim (λ e. sym e)
      (λ g. ⊎_elim (λ e. e) (λ h. absurd (greater_once g h)) (canonical_greatest b a.is_order a.each))
      (canonical_greatest a b.is_order b.each)

-- ---- where deadlines met and active rules come to the same, so does the order

pub canonical_other : {n : ℕ} {rules : List Rule} {M N : ℕ → (ℕ → Bool) → Type 0} {a b : ℕ → Bool} {order : List ℕ}
    → ((i : ℕ) (above : ℕ → Bool) → M i above ↔ N i above) → ((k : ℕ) → k < length rules → T (a k) ↔ T (b k))
    → Canonical n rules M a order → Canonical n rules N b order
canonical_other meets active c =
    record {
      is_order = c.is_order;
      each = λ k h. may_other (λ i above. (meets i above).0) (λ j l. (active j l).1) (c.each k h);
      greatest = λ k h i m. c.greatest k h i (may_other (λ i above. (meets i above).1) (λ j l. (active j l).0) m);
    }

-- ---- the assignment finds it

module _ (p : Problem) (active : ℕ → Bool) where
  -- each level went to the greatest index that might take it
  abbrev ByGreatest : List ℕ → Type 0
  ByGreatest low = (k : ℕ) → k < length low
      → IsGreatest p.tasks (may_take p active (unassigned p.tasks (drop (suc k) low))) (get_or low k 0)

  by_more : (i : ℕ) (low : List ℕ) → IsGreatest p.tasks (may_take p active (unassigned p.tasks low)) i → ByGreatest low
      → ByGreatest (i ∷ low)
  by_more i low g by zero h = g
  by_more i low g by (suc k) h = by k (le_of_suc-le-suc h)

  -- all its levels did, whether every task got one or not
  pub assign-greatest : (k : ℕ) → k < length (assign p active) → (i : ℕ)
      → MayTake p.rules (Passes p) active (unassigned p.tasks (drop (suc k) (assign p active))) i → i ≤ get_or (assign p active) k 0
  assign-greatest k h i may =
      let left = unassigned p.tasks (drop (suc k) (assign p active)) in
      let by = (assign_keeps p active ByGreatest by_more (λ k h. absurd (not-suc-le-zero h))).0 in
      ⊎_elim
      (λ more.
      absurd ((by k h).last i (unassigned_is p.tasks (drop (suc k) (assign p active)) i may.is_left).0 more (may_test p active left i may)))
      (λ le. le)
      (lt_or_le (get_or (assign p active) k 0) i)

  pub assign_canonical : length (assign p active) ≡ p.tasks → Canonical p.tasks p.rules (Passes p) active (assign p active)
  assign_canonical whole =
      record {
        is_order = is;
        each = filled_each p active order filled whole;
        greatest = λ k h i m. assign-greatest k h i (rw (left-unassigned is k h) at m);
      }
    where
      order : List ℕ
      order = assign p active

      filled : Filled p active order
      filled = assign_filled p active

      is : IsOrder p.tasks order
      is = filled_order p active order filled whole
