-- A list as the front of an array of n entries, the rest of which is d. Assumes nothing.
use Rattle.std.specs.Prelude.{◌≡◌, refl, List, [], ◌∷◌, ◌++◌, map, ℕ, zero, suc, ◌+◌, ◌-◌, ◌≤◌, ◌<◌, length, get_or, set, replicate, take}
use Rattle.std.proofs.Common.{sym, ap, ◌∙◌, ⊎_elim, not-suc-le-zero, le_of_suc-le-suc, add-one, arith, append_assoc, length-append, length-set, length-take-le, take-suc, get_or-append-add}
use Rattle.std.specs.List.{remove}
use Rattle.std.proofs.lemmas.List.{length-replicate, get_or-replicate, set-append_left, replicate_more, take-set, drop-set-lt}
use Rattle.std.proofs.lemmas.List.Edits.{length-remove, remove-append_left}
use Rattle.std.proofs.Math.ListN.{get_or-append, get_or-eq_default}
use Rattle.std.proofs.Math.Seq.{take-append_seam, set-append_seam, append_snoc}
use Rattle.sets.specs.Choice.{lt_or_le}

module _ {A : Type 0} where
  abbrev pub pad : ℕ → A → List A → List A
  pad n d xs = xs ++ replicate (n - length xs) d

  replicate-less : (n k : ℕ) (d : A) → k < n → replicate (n - k) d ≡ d ∷ replicate (n - suc k) d
  replicate-less n k d h = let e : n - k ≡ suc (n - suc k) = omega arith in rw e

  pub pad-length : (n : ℕ) (d : A) (xs : List A) → length xs ≤ n → length (pad n d xs) ≡ n
  pad-length n d xs h = simp (length-append, length-replicate) (omega arith)

  -- one entry more
  pub set-pad : (n : ℕ) (d : A) (xs : List A) (x : A) → length xs < n
      → set (pad n d xs) (length xs) x ≡ pad n d (xs ++ x ∷ [])
  set-pad n d xs x h =
      let e : length (xs ++ x ∷ []) ≡ suc (length xs) = length-append xs (x ∷ []) ∙ add-one (length xs) in
      let rest = replicate (n - suc (length xs)) d in
      rw (e, replicate-less n (length xs) d h, set-append_seam xs d rest x) (sym (append_snoc xs x rest))

  -- the next of a list's entries, as a loop stores it
  pub pad-next : (n : ℕ) (d : A) (xs : List A) (k : ℕ) (array : List A) → k < length xs → length xs ≤ n
      → array ≡ pad n d (take k xs) → set array k (get_or xs k d) ≡ pad n d (take (k + 1) xs)
  pad-next n d xs k array h few e =
      let long : length (take k xs) ≡ k = length-take-le k xs (omega arith) in
      rw (e, add-one k, take-suc xs k d h, long) (rw long at (set-pad n d (take k xs) (get_or xs k d) (omega (arith, long))))

  pub pad_used : (n : ℕ) (d : A) (xs : List A) (k : ℕ) → k < length xs → get_or (pad n d xs) k d ≡ get_or xs k d
  pad_used n d xs k h = get_or-append xs (replicate (n - length xs) d) d k h

  pub pad_unused : (n : ℕ) (d : A) (xs : List A) (k : ℕ) → length xs ≤ k → k < n → get_or (pad n d xs) k d ≡ d
  pad_unused n d xs k over under =
      let e : length xs + (k - length xs) ≡ k = omega arith in
      rw e at (get_or-append-add xs (replicate (n - length xs) d) (k - length xs) d)
      ∙ get_or-replicate (n - length xs) (k - length xs) d d (omega arith)

  -- from the list's end on, past the array's too
  pub pad-rest : (n : ℕ) (d : A) (xs : List A) (k : ℕ) → length xs ≤ k → get_or (pad n d xs) k d ≡ d
  pad-rest n d xs k over =
      ⊎_elim (λ l. pad_unused n d xs k over l)
      (λ g. get_or-eq_default (pad n d xs) d (simp (length-append, length-replicate) (omega (arith, g)))) (lt_or_le k n)

  -- and the list is its front
  pub take-pad : (n : ℕ) (d : A) (xs : List A) → take (length xs) (pad n d xs) ≡ xs
  take-pad n d xs = take-append_seam xs (replicate (n - length xs) d)

-- an entry written over, and one taken out with a blank one behind
module _ {A : Type 0} (n : ℕ) (d : A) (xs : List A) (i : ℕ) (h : i < length xs) where
  pub overwritten_pad : (x : A) → set (pad n d xs) i x ≡ pad n d (set xs i x)
  overwritten_pad x =
      set-append_left xs (replicate (n - length xs) d) i x h
      ∙ ap (λ (m : ℕ). set xs i x ++ replicate (n - m) d) (sym (length-set xs i x))

  pub remove_pad : length xs ≤ n → remove (pad n d xs) i ++ d ∷ [] ≡ pad n d (remove xs i)
  remove_pad few =
      let less = length-remove xs i h in
      let rest : (n - length xs) + 1 ≡ n - length (remove xs i) = omega (arith, less, few) in
      rw (remove-append_left xs (replicate (n - length xs) d) i h)
      (append_assoc (remove xs i) (replicate (n - length xs) d) (d ∷ [])
      ∙ ap (λ (r : List A). remove xs i ++ r) (replicate_more (n - length xs) d ∙ ap (λ (m : ℕ). replicate m d) rest))

-- what is written at a place is taken out with it
pub overwritten_removed : {A : Type 0} (xs : List A) (i : ℕ) (x : A) → remove (set xs i x) i ≡ remove xs i
overwritten_removed xs i x = rw (take-set xs i x, drop-set-lt (suc i) xs i x (omega arith)) refl

-- an entry of a list that a function was applied to
pub map_at : {A B : Type 0} (f : A → B) (xs : List A) (k : ℕ) (d : A) (e : B) → k < length xs
    → get_or (map f xs) k e ≡ f (get_or xs k d)
map_at f [] k d e h = absurd (not-suc-le-zero h)
map_at f (x ∷ xs) zero d e h = refl
map_at f (x ∷ xs) (suc k) d e h = map_at f xs k d e (le_of_suc-le-suc h)
