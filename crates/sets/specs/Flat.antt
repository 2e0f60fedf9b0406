-- Lists put together piece by piece, and written into a buffer so. Assumes nothing.
use Rattle.std.specs.Prelude.{◌≡◌, length, get_or, take}
use Rattle.std.proofs.Common.{sym, add-one, take-suc}
use mathlib.Core.List.{List, [], ◌∷◌, ◌++◌, flat_map, append_assoc, append-nil}
use Prim.Native.Nat.{ℕ, zero, suc, ◌+◌, ◌≤◌, ◌<◌}
use native.Mathlib.Omega.{arith}
use Rattle.std.proofs.Math.ListN.{length-append}
use Rattle.sets.specs.Onto.{Front, front_as}

module _ {A : Type 0} (f : A → List ℕ) where
  -- one piece more
  pub flat_snoc : (xs : List A) (x : A) → flat_map f (xs ++ x ∷ []) ≡ flat_map f xs ++ f x
  unfolding flat_map
  flat_snoc [] x = append-nil (f x)
  flat_snoc (y ∷ ys) x = rw (flat_snoc ys x) (sym (append_assoc (f y) (flat_map f ys) (f x)))

  pub flat_more : (xs : List A) (k : ℕ) (d : A) → k < length xs
      → flat_map f (take (k + 1) xs) ≡ flat_map f (take k xs) ++ f (get_or xs k d)
  flat_more xs k d h = rw (add-one k, take-suc xs k d h) (flat_snoc (take k xs) (get_or xs k d))

  -- its length
  pub flat_longer : (xs : List A) (k : ℕ) (d : A) → k < length xs
      → length (flat_map f (take (k + 1) xs)) ≡ length (flat_map f (take k xs)) + length (f (get_or xs k d))
  flat_longer xs k d h = rw (flat_more xs k d h) (length-append (flat_map f (take k xs)) (f (get_or xs k d)))

  -- fewer pieces are no longer
  pub flat_less : (xs : List A) (j k : ℕ) → j ≤ k → length (flat_map f (take j xs)) ≤ length (flat_map f (take k xs))
  unfolding flat_map
  flat_less xs zero k h = omega arith
  flat_less xs (suc j) zero h = absurd (omega arith)
  flat_less [] (suc j) (suc k) h = omega arith
  flat_less (x ∷ xs) (suc j) (suc k) h =
      omega (
        arith,
        flat_less xs j k (omega arith),
        length-append (f x) (flat_map f (take j xs)),
        length-append (f x) (flat_map f (take k xs)),
      )

  -- ---- after what stands in the buffer's front

  module _ (front : List ℕ) (xs : List A) where
    abbrev pub with_pieces : ℕ → List ℕ
    with_pieces k = front ++ flat_map f (take k xs)

    module _ {buffer ys : List ℕ} {at : ℕ} where
      -- none yet
      pub no_piece : Front front buffer at ys → Front (with_pieces 0) buffer at ys
      unfolding flat_map
      no_piece = front_as (sym (append-nil front))

      -- one more
      pub next_piece : (k : ℕ) (d : A) → k < length xs → Front (with_pieces k ++ f (get_or xs k d)) buffer at ys
          → Front (with_pieces (k + 1)) buffer at ys
      next_piece k d h g = rw (flat_more xs k d h) (rw append_assoc at g)

    -- which fits where n of them do
    pub piece_fits : (k n : ℕ) (d : A) → k < n → n ≤ length xs
        → length (with_pieces k ++ f (get_or xs k d)) ≤ length (with_pieces n)
    piece_fits k n d h g =
        omega (
          arith,
          flat_longer xs k d (omega arith),
          flat_less xs (k + 1) n (omega arith),
          length-append (with_pieces k) (f (get_or xs k d)),
          length-append front (flat_map f (take k xs)),
          length-append front (flat_map f (take n xs)),
        )
