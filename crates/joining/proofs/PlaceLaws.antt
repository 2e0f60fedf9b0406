-- Laws of places: where a task stands in the joined lists, and where it stood before. Assumes nothing.
use Rattle.std.specs.Prelude.{◌≡◌, ◌⊎◌, ℕ, suc, ◌-◌, ◌≤◌, ◌<◌, max, min, eqb}
use Rattle.std.proofs.Common.{sym, ap, ◌∙◌, inl, inr, ⊎_elim, arith, ne_eqb, lt-ltb, le-ltb}
use Rattle.std.proofs.Math.Dec.{eqb_refl}
use Rattle.std.proofs.lemmas.Bool.{cases_eq}
use Rattle.sets.specs.Choice.{T→true, lt_or_le}
use Rattle.joining.specs.Joining.{new_place}
use Rattle.joining.specs.SideBySide.{old_place}

-- ---- by where the place stands

module _ (low high j : ℕ) where
  pub new_high : j ≡ high → new_place low high j ≡ low
  unfolding new_place
  new_high e = rw (e, T→true (eqb high high) (eqb_refl high))

  pub new_under : j < high → new_place low high j ≡ j
  unfolding new_place
  new_under h = rw (ne_eqb j high (λ e. omega arith), le-ltb high j (omega arith))

  pub new_over : high < j → new_place low high j ≡ j - 1
  unfolding new_place
  new_over h = rw (ne_eqb j high (λ e. omega arith), lt-ltb high j h)

module _ (high j : ℕ) where
  pub old_under : j < high → old_place high j ≡ j
  unfolding old_place
  old_under h = rw (lt-ltb j high h)

  pub old_over : high ≤ j → old_place high j ≡ suc j
  unfolding old_place
  old_over h = rw (le-ltb j high h)

-- a place is before another, after it or the same
data Stands (high j : ℕ) : Type 0 where
  same : j ≡ high → Stands high j
  under : j < high → Stands high j
  over : high < j → Stands high j

stands : (high j : ℕ) → Stands high j
stands high j = ⊎_elim (λ l. under l) (λ g. ⊎_elim (λ m. over m) (λ n. same (omega arith)) (lt_or_le high j)) (lt_or_le j high)

-- ---- of two tasks in either order: u, which is to be the upper one, and w, the lower

module _ (u w : ℕ) where
  abbrev pub new : ℕ → ℕ
  new = new_place (min u w) (max u w)

  abbrev pub old : ℕ → ℕ
  old = old_place (max u w)

module _ (u w : ℕ) (apart : u ≡ w → ⊥) where
  abbrev place : ℕ → ℕ
  place = new u w

  abbrev back : ℕ → ℕ
  back = old u w

  pub two_places : ((u ≡ min u w) × (w ≡ max u w)) ⊎ ((u ≡ max u w) × (w ≡ min u w))
  two_places = ⊎_elim (λ l. inl (omega arith, omega arith)) (λ g. inr (omega arith, omega arith)) (lt_or_le u w)

  -- the join has the smaller place, and a later task one less
  pub low-lt : min u w < max u w
  low-lt = ⊎_elim (λ l. omega arith) (λ g. ⊎_elim (λ m. omega arith) (λ n. absurd (apart (omega arith))) (lt_or_le w u)) (lt_or_le u w)

  pub new_upper : place u ≡ min u w
  new_upper =
      ⊎_elim (λ e. new_under (min u w) (max u w) u (omega (arith, e.0, low-lt)) ∙ e.0) (λ e. new_high (min u w) (max u w) u e.0) two_places

  pub new_lower : place w ≡ min u w
  new_lower =
      ⊎_elim (λ e. new_high (min u w) (max u w) w e.1) (λ e. new_under (min u w) (max u w) w (omega (arith, e.1, low-lt)) ∙ e.1) two_places

  -- and nothing else has the join's place
  pub new_two : (j : ℕ) → place j ≡ min u w → (j ≡ u) ⊎ (j ≡ w)
  new_two j e = go (stands (max u w) j)
    where
      go : Stands (max u w) j → (j ≡ u) ⊎ (j ≡ w)
      go (same h) = ⊎_elim (λ p. inr (h ∙ sym p.1)) (λ p. inl (h ∙ sym p.0)) two_places
      go (under l) =
          let at : j ≡ min u w = sym (new_under (min u w) (max u w) j l) ∙ e in
          ⊎_elim (λ p. inl (at ∙ sym p.0)) (λ p. inr (at ∙ sym p.1)) two_places
      go (over g) = absurd (omega (arith, new_over (min u w) (max u w) j g, e, low-lt))

  -- back again
  pub new_old : (x : ℕ) → place (back x) ≡ x
  new_old x =
      ⊎_elim (λ l. ap place (old_under (max u w) x l) ∙ new_under (min u w) (max u w) x l)
      (λ g. ap place (old_over (max u w) x g) ∙ new_over (min u w) (max u w) (suc x) (omega arith) ∙ omega arith)
      (lt_or_le x (max u w))

  pub old_new : (j : ℕ) → (j ≡ max u w → ⊥) → back (place j) ≡ j
  old_new j other = go (stands (max u w) j)
    where
      go : Stands (max u w) j → back (place j) ≡ j
      go (same h) = absurd (other h)
      go (under l) = ap back (new_under (min u w) (max u w) j l) ∙ old_under (max u w) j l
      go (over g) =
          ap back (new_over (min u w) (max u w) j g) ∙ old_over (max u w) (j - 1) (omega arith) ∙ omega arith

  -- two tasks have one place exactly where they are the two
  pub new_same : (i j : ℕ) → place i ≡ place j → (i ≡ j) ⊎ (((i ≡ u) × (j ≡ w)) ⊎ ((i ≡ w) × (j ≡ u)))
  new_same i j e = ⊎_elim first (λ a. ⊎_elim second (λ b. inl (sym (old_new i a) ∙ ap back e ∙ old_new j b)) (cases_eq j (max u w))) (cases_eq i (max u w))
    where
      Same : Type 0
      Same = (i ≡ j) ⊎ (((i ≡ u) × (j ≡ w)) ⊎ ((i ≡ w) × (j ≡ u)))

      both : (i ≡ u) ⊎ (i ≡ w) → (j ≡ u) ⊎ (j ≡ w) → Same
      both (inl a) (inl b) = inl (a ∙ sym b)
      both (inl a) (inr b) = inr (inl (a, b))
      both (inr a) (inl b) = inr (inr (a, b))
      both (inr a) (inr b) = inl (a ∙ sym b)

      first : i ≡ max u w → Same
      first h = let at = new_high (min u w) (max u w) i h in both (new_two i at) (new_two j (sym e ∙ at))

      second : j ≡ max u w → Same
      second h = let at = new_high (min u w) (max u w) j h in both (new_two i (e ∙ at)) (new_two j at)

  -- among n tasks and one less
  module _ (m : ℕ) (here : u < suc m) (there : w < suc m) where
    pub new_below : (j : ℕ) → j < suc m → place j < m
    new_below j h = go (stands (max u w) j)
      where
        high-le : max u w ≤ m
        high-le = omega arith

        go : Stands (max u w) j → place j < m
        go (same e) = rw (new_high (min u w) (max u w) j e) (omega (arith, low-lt))
        go (under l) = rw (new_under (min u w) (max u w) j l) (omega arith)
        go (over g) = rw (new_over (min u w) (max u w) j g) (omega arith)

    pub old_below : (x : ℕ) → x < m → back x < suc m
    old_below x h =
        ⊎_elim (λ l. rw (old_under (max u w) x l) (omega arith)) (λ g. rw (old_over (max u w) x g) (omega arith))
        (lt_or_le x (max u w))
