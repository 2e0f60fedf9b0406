-- An order of the joined tasks with the two side by side again: who stands before whom, and that it is an order of the old tasks.
-- Assumes nothing.
use Rattle.std.specs.Prelude.{◌≡◌, ◌↔◌, refl, Bool, true, false, List, [], ◌∷◌, ℕ, suc, ◌+◌, ◌<◌, max, min, eqb, length, get_or}
use Rattle.std.proofs.Common.{sym, ap, ◌∙◌, subst, ⊎_elim, arith, suc-le-suc, le_of_suc-le-suc, not-suc-le-zero, eq-or-lt_of_le, eq-eqb, ne_eqb, eqb-true, ltb→lt, lt→ltb}
use Rattle.std.proofs.lemmas.Bool.{eqb-false}
use Rattle.sets.specs.Choice.{pick, lt_or_le, same_test}
use Rattle.sets.specs.Rank.{rank, Member, Distinct, get_or-rank, get_or-member, distinct_head, distinct_tail, distinct_cons}
use Rattle.assignment.specs.Orders.{IsOrder, hp}
use Rattle.joining.specs.SideBySide.{side_by_side}
use Rattle.joining.proofs.PlaceLaws.{new, old, new_over, new_high, new_two, new_upper, new_lower, new_old, old_new, new_below}

module _ (u w : ℕ) (apart : u ≡ w → ⊥) where
  -- ---- one entry more, in front

  -- how many tasks stand for it
  abbrev width : ℕ → ℕ
  width x = pick (eqb x (min u w)) 2 1

  module _ (x : ℕ) (xs : List ℕ) where
    -- so much longer is the order
    wider : length (side_by_side u w (x ∷ xs)) ≡ width x + length (side_by_side u w xs)
    unfolding side_by_side
    wider = go (eqb x (min u w))
      where
        go : (b : Bool) → length (pick b (u ∷ w ∷ side_by_side u w xs) (old u w x ∷ side_by_side u w xs)) ≡ pick b 2 1 + length (side_by_side u w xs)
        go true = omega arith
        go false = omega arith

    -- its tasks stand first
    within : (i : ℕ) → eqb x (new u w i) ≡ true → rank (side_by_side u w (x ∷ xs)) i < width x
    unfolding side_by_side
    within i is = go (eqb x (min u w)) refl
      where
        at : new u w i ≡ x
        at = sym (eqb-true x (new u w i) is)

        go : (b : Bool) → eqb x (min u w) ≡ b → rank (pick b (u ∷ w ∷ side_by_side u w xs) (old u w x ∷ side_by_side u w xs)) i < pick b 2 1
        go true e =
            ⊎_elim (λ f. rw (eq-eqb u i (sym f)) (omega arith))
            (λ s. rw (ne_eqb u i (λ f. apart (f ∙ s)), eq-eqb w i (sym s)) (omega arith))
            (new_two u w apart i (at ∙ eqb-true x (min u w) e))
        go false e =
            let back = old_new u w apart i (λ h. eqb-false x (min u w) e (sym at ∙ new_high (min u w) (max u w) i h)) in
            rw (eq-eqb (old u w x) i (ap (old u w) (sym at) ∙ back)) (omega arith)

    -- and every other as much later
    beyond : (i : ℕ) → eqb x (new u w i) ≡ false → rank (side_by_side u w (x ∷ xs)) i ≡ width x + rank (side_by_side u w xs) i
    unfolding side_by_side
    beyond i is_not = go (eqb x (min u w)) refl
      where
        other : (k : ℕ) → x ≡ new u w k → eqb k i ≡ false
        other k e = ne_eqb k i (λ s. eqb-false x (new u w i) is_not (e ∙ ap (new u w) s))

        go : (b : Bool) → eqb x (min u w) ≡ b
            → rank (pick b (u ∷ w ∷ side_by_side u w xs) (old u w x ∷ side_by_side u w xs)) i ≡ pick b 2 1 + rank (side_by_side u w xs) i
        go true e =
            let low = eqb-true x (min u w) e in
            rw (other u (low ∙ sym (new_upper u w apart)), other w (low ∙ sym (new_lower u w apart))) (omega arith)
        go false e = rw (other (old u w x) (sym (new_old u w apart x))) (omega arith)

  -- ---- who stands before whom

  -- who stood before whom does so still
  pub beside_before : (order : List ℕ) (i j : ℕ) → rank order (new u w i) < rank order (new u w j)
      → rank (side_by_side u w order) i < rank (side_by_side u w order) j
  beside_before [] i j h = absurd (not-suc-le-zero h)
  beside_before (x ∷ xs) i j h = go (eqb x (new u w i)) refl (eqb x (new u w j)) refl h (beside_before xs i j)
    where
      go : (b : Bool) → eqb x (new u w i) ≡ b → (c : Bool) → eqb x (new u w j) ≡ c
          → pick b 0 (suc (rank xs (new u w i))) < pick c 0 (suc (rank xs (new u w j)))
          → (rank xs (new u w i) < rank xs (new u w j) → rank (side_by_side u w xs) i < rank (side_by_side u w xs) j)
          → rank (side_by_side u w (x ∷ xs)) i < rank (side_by_side u w (x ∷ xs)) j
      go b e true f l step = absurd (not-suc-le-zero l)
      go true e false f l step = omega (arith, within x xs i e, beyond x xs j f)
      go false e false f l step = omega (arith, step (le_of_suc-le-suc l), beyond x xs i e, beyond x xs j f)

  -- the lower of the two straight after the upper
  pub beside_next : (order : List ℕ) → Member order (min u w) → rank (side_by_side u w order) w ≡ suc (rank (side_by_side u w order) u)
  unfolding side_by_side
  beside_next [] h = absurd (not-suc-le-zero h)
  beside_next (x ∷ xs) h = go (eqb x (min u w)) refl h (beside_next xs)
    where
      go : (b : Bool) → eqb x (min u w) ≡ b → pick b 0 (suc (rank xs (min u w))) < suc (length xs)
          → (Member xs (min u w) → rank (side_by_side u w xs) w ≡ suc (rank (side_by_side u w xs) u))
          → rank (side_by_side u w (x ∷ xs)) w ≡ suc (rank (side_by_side u w (x ∷ xs)) u)
      go true e l step = rw (e, ne_eqb u w apart, eq-eqb w w refl, eq-eqb u u refl) refl
      go false e l step =
          omega (
            arith,
            step (le_of_suc-le-suc l),
            beyond x xs u (ap (eqb x) (new_upper u w apart) ∙ e),
            beyond x xs w (ap (eqb x) (new_lower u w apart) ∙ e),
          )

  -- ---- who stands in it

  -- a task stands in it exactly where its new place stood before
  beside_member : (order : List ℕ) (i : ℕ) → Member order (new u w i) ↔ Member (side_by_side u w order) i
  unfolding side_by_side
  beside_member [] i = (λ h. h, λ h. h)
  beside_member (x ∷ xs) i = go (eqb x (new u w i)) refl (beside_member xs i)
    where
      go : (b : Bool) → eqb x (new u w i) ≡ b → (Member xs (new u w i) ↔ Member (side_by_side u w xs) i)
          → (pick b 0 (suc (rank xs (new u w i))) < suc (length xs)) ↔ Member (side_by_side u w (x ∷ xs)) i
      go true e same = (λ h. omega (arith, within x xs i e, wider x xs), λ h. omega arith)
      go false e same = (
        λ h. omega (arith, same.0 (le_of_suc-le-suc h), beyond x xs i e, wider x xs),
        λ h. suc-le-suc (same.1 (omega (arith, h, beyond x xs i e, wider x xs))),
      )

  -- and none stands twice
  beside_once : (order : List ℕ) → Distinct order → Distinct (side_by_side u w order)
  unfolding side_by_side
  beside_once [] once = once
  beside_once (x ∷ xs) once = go (eqb x (min u w)) refl (beside_once xs (distinct_tail x xs once))
    where
      out : (i : ℕ) → new u w i ≡ x → Member (side_by_side u w xs) i → ⊥
      out i e h = distinct_head x xs once (subst (Member xs) e ((beside_member xs i).1 h))

      go : (b : Bool) → eqb x (min u w) ≡ b → Distinct (side_by_side u w xs)
          → Distinct (pick b (u ∷ w ∷ side_by_side u w xs) (old u w x ∷ side_by_side u w xs))
      go true e tail =
          let low = sym (eqb-true x (min u w) e) in
          distinct_cons u (w ∷ side_by_side u w xs)
          (λ h. out u (new_upper u w apart ∙ low) (le_of_suc-le-suc (rw (ne_eqb w u (λ s. apart (sym s))) at h)))
          (distinct_cons w (side_by_side u w xs) (out w (new_lower u w apart ∙ low)) tail)
      go false e tail = distinct_cons (old u w x) (side_by_side u w xs) (out (old u w x) (new_old u w apart x)) tail

  -- so it is an order
  module _ (m : ℕ) (here : u < suc m) (there : w < suc m) {order : List ℕ} (is : IsOrder m order) where
    pub beside_order : IsOrder (suc m) (side_by_side u w order)
    beside_order =
        record {
          only = λ k h. only (get_or (side_by_side u w order) k 0) (get_or-member (side_by_side u w order) k h);
          every = λ i h. (beside_member order i).0 (is.every (new u w i) (new_below u w apart m here there i h));
          once = beside_once order is.once;
        }
      where
        only : (i : ℕ) → Member (side_by_side u w order) i → i < suc m
        only i h =
            let stood = (beside_member order i).1 h in
            let below = is.only (rank order (new u w i)) stood in
            let is_it = get_or-rank order (new u w i) stood in
            ⊎_elim (λ l. l) (λ g. absurd (omega (arith, below, is_it, new_over (min u w) (max u w) i (omega arith)))) (lt_or_le i (suc m))

    -- so tasks with two places are above one another as they were
    pub beside_hp : (i j : ℕ) → i < suc m → j < suc m → (new u w i ≡ new u w j → ⊥)
        → hp (side_by_side u w order) i j ≡ hp order (new u w i) (new u w j)
    beside_hp i j hi hj other =
        same_test _ _
        (λ t. lt→ltb _ _ (back (ltb→lt _ _ t)))
        (λ t. lt→ltb _ _ (beside_before order j i (ltb→lt _ _ t)))
      where
        stood : (k : ℕ) → k < suc m → get_or order (rank order (new u w k)) 0 ≡ new u w k
        stood k h = get_or-rank order (new u w k) (is.every (new u w k) (new_below u w apart m here there k h))

        back : rank (side_by_side u w order) j < rank (side_by_side u w order) i → rank order (new u w j) < rank order (new u w i)
        back l =
            ⊎_elim (λ b. b)
            (λ g. ⊎_elim (λ e. absurd (other (sym (stood i hi) ∙ ap (λ k. get_or order k 0) e ∙ stood j hj)))
            (λ b. absurd (omega (arith, l, beside_before order i j b))) (eq-or-lt_of_le g))
            (lt_or_le _ _)
