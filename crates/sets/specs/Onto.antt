-- Entries written into the front of a buffer, and more of them into the rest of it. Assumes nothing.
use Rattle.std.specs.Prelude.{◌≡◌, refl, List, [], ◌∷◌, ◌++◌, ℕ, suc, ◌+◌, ◌-◌, ◌≤◌, ◌<◌, length, get_or, take, drop, set}
use Rattle.std.proofs.Common.{sym, ap, ◌∙◌, append_assoc, append-nil, add-one, arith, length-append, length-drop, length-set, drop_of_length-le, take_all, take_at, drop_at, drop-cons, drop-drop, drop-set-lt, get_or-set_same}
use Rattle.std.proofs.Math.Seq.{take-append_seam, set-append_seam, append_snoc}

-- the entries, and then what stood after their places
abbrev pub onto : List ℕ → List ℕ → List ℕ
onto entries buffer = entries ++ drop (length entries) buffer

-- as many as were written stand in front
pub front_count : (entries buffer xs : List ℕ) (n : ℕ) → n ≡ length entries → xs ≡ onto entries buffer
    → (n ≤ length xs) × (n ≡ length (take n xs))
front_count entries buffer xs n e f =
    rw (f, e) (simp length-append (omega arith), ap length (sym (take-append_seam entries (drop (length entries) buffer))))

-- more, into the rest of the buffer
pub onto-more : (xs ys buffer : List ℕ) → xs ++ onto ys (drop (length xs) buffer) ≡ onto (xs ++ ys) buffer
onto-more xs ys buffer = simp (append_assoc, length-append, drop-drop)

-- ---- a lent tail

-- the rest of a list, as the code lends it, and the list with another in its place
abbrev pub tail_of : ℕ → List ℕ → List ℕ
tail_of at xs = take (length xs - at) (drop at xs)

abbrev pub with_tail : ℕ → List ℕ → List ℕ → List ℕ
with_tail at xs ys = take at xs ++ (ys ++ drop (length xs - at) (drop at xs))

-- so many entries are written into the front of the buffer, which is now xs
pub record Front (entries buffer : List ℕ) (at : ℕ) (xs : List ℕ) : Type 0 where
  pub count : at ≡ length entries
  pub list : xs ≡ onto entries buffer

-- nothing yet
pub front_none : {buffer : List ℕ} → Front [] buffer 0 buffer
front_none = record { count = refl; list = refl }

-- said of equal entries
pub front_as : {entries same buffer xs : List ℕ} {at : ℕ} → entries ≡ same → Front entries buffer at xs → Front same buffer at xs
front_as e f = rw (← e) f

module _ {entries buffer xs : List ℕ} {at : ℕ} (f : Front entries buffer at xs) where
  -- they lie inside
  pub front_in : at ≤ length xs
  front_in = omega (arith, ap length f.list, length-append entries (drop (length entries) buffer), f.count)

  -- and the buffer is as long as it was
  pub front_length : length entries ≤ length buffer → length xs ≡ length buffer
  front_length h =
      omega (arith, ap length f.list, length-append entries (drop (length entries) buffer), length-drop (length entries) buffer)

  -- a lent tail is what stands there in the buffer
  tail_kept : tail_of at xs ≡ drop (length entries) buffer
  tail_kept =
      take_all (length xs - at) (drop at xs) (omega (arith, length-drop at xs))
      ∙ ap (drop at) f.list
      ∙ drop_at entries (drop (length entries) buffer) at (sym f.count)

  -- and has room for what the buffer has room for
  pub tail_room : (more : List ℕ) → length (entries ++ more) ≤ length buffer → length more ≤ length (tail_of at xs)
  tail_room more h = omega (arith, ap length tail_kept, length-drop (length entries) buffer, length-append entries more)

  -- and nothing after it
  tail_last : drop (length xs - at) (drop at xs) ≡ []
  tail_last = drop_of_length-le (drop at xs) {i = length xs - at} (omega (arith, length-drop at xs))

  -- a tail that comes back with more in its front
  pub tail_back : {more ys : List ℕ} {n : ℕ} → Front more (tail_of at xs) n ys
      → Front (entries ++ more) buffer (at + n) (with_tail at xs ys)
  tail_back {more} {ys} g = record {
    count = omega (arith, f.count, g.count, length-append entries more);
    list =
        let front : take at xs ≡ entries = rw f.list (take_at entries (drop (length entries) buffer) at (sym f.count)) in
        rw (front, tail_last, append-nil, g.list, tail_kept) (onto-more entries more buffer);
  }

-- ---- a store

-- what stands from a place on after a store there
pub drop_store : (l : List ℕ) (i a : ℕ) → i < length l → drop i (set l i a) ≡ a ∷ drop (suc i) l
drop_store l i a h =
    rw (drop-cons (set l i a) i 0 (simp length-set h), get_or-set_same l i a 0 h, drop-set-lt (suc i) l i a (omega arith))

-- and one in the front's next place
pub front_store : {entries buffer xs : List ℕ} {at : ℕ} → Front entries buffer at xs → at < length buffer → (a : ℕ)
    → Front (entries ++ a ∷ []) buffer (at + 1) (set xs at a)
front_store {entries} {buffer} {xs} {at} f room a = record {
  count = omega (arith, f.count, length-append entries (a ∷ []));
  list =
      let n = length entries in
      rw (f.count, f.list, drop-cons buffer n 0 (omega (arith, f.count, room)), set-append_seam entries (get_or buffer n 0) (drop (suc n) buffer) a, length-append entries (a ∷ []), add-one n)
      (sym (append_snoc entries a (drop (suc n) buffer)));
}
