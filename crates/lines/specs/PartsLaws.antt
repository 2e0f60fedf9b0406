-- Laws of bytes parted by a byte: what a search for the mark says of the first part, how the parts are got one by one, and
-- that they and the bytes determine each other. Each goes by induction on the bytes. Assumes nothing.
use Rattle.std.specs.Prelude.{◌≡◌, refl, Option, Some, None, unwrap_or, Bool, true, false, ◌⊎◌, ℕ, zero, suc, ◌+◌, ◌-◌, ◌≤◌, ◌<◌, eqb, length, take, drop}
use Rattle.std.proofs.lemmas.Bool.{false_from_ne_true}
use Rattle.memchr.specs.Find.{Nowhere, Passes, IsFirstByte, is_byte}
use Rattle.std.proofs.Common.{ap, ◌∙◌, inl, inr, ⊎_elim, add-one, arith, length-drop, drop_of_length-le, drop-cons, drop-drop}
use mathlib.Core.List.{List, [], ◌∷◌, ◌++◌}
use borrow.Author.Tests.{eq-eqb, eqb-true}
use Rattle.sets.specs.Choice.{pick}
use Rattle.lines.specs.Parts.{cons_first, parts, up_to, join}

-- ---- one byte more: it is the mark, or not

pub parts-here : (m b : ℕ) (bs : List ℕ) → eqb b m ≡ true → parts m (b ∷ bs) ≡ [] ∷ parts m bs
unfolding parts
parts-here m b bs e = rw e

pub parts_on : (m b : ℕ) (bs : List ℕ) → eqb b m ≡ false → parts m (b ∷ bs) ≡ cons_first b (parts m bs)
unfolding parts
parts_on m b bs e = rw e

pub up_to-here : (m b : ℕ) (bs : List ℕ) → eqb b m ≡ true → up_to m (b ∷ bs) ≡ []
unfolding up_to
up_to-here m b bs e = rw e

pub up_to_on : (m b : ℕ) (bs : List ℕ) → eqb b m ≡ false → up_to m (b ∷ bs) ≡ b ∷ up_to m bs
unfolding up_to
up_to_on m b bs e = rw e

pub up_to_end : (m : ℕ) (bs : List ℕ) (at : ℕ) → length bs ≤ at → up_to m (drop at bs) ≡ []
unfolding up_to
up_to_end m bs at h = rw (drop_of_length-le bs h)

-- what stands before the first mark: the first n bytes, where none of them is one, and the next is one or there are no more
up_to_at : (m : ℕ) (bs : List ℕ) (n : ℕ) → Nowhere (Passes (is_byte m) bs) 0 n
    → (n ≡ length bs) ⊎ ((n < length bs) × Passes (is_byte m) bs n)
    → take n bs ≡ up_to m bs
unfolding up_to
up_to_at m [] zero out ends = refl
up_to_at m [] (suc n) out ends = absurd (⊎_elim (λ e. omega (arith, e)) (λ on. omega (arith, on.0)) ends)
up_to_at m (b ∷ bs) zero out ends = ⊎_elim (λ e. absurd (omega (arith, e))) (λ on. rw on.1 refl) ends
up_to_at m (b ∷ bs) (suc n) out ends =
    let off : eqb b m ≡ false = false_from_ne_true _ (out 0 (omega arith) (omega arith)) in
    let rest =
    up_to_at m bs n (λ k low high. out (suc k) (omega arith) (omega (arith, high)))
    (⊎_elim (λ e. inl (omega (arith, e))) (λ on. inr (omega (arith, on.0), on.1)) ends)
    in
    rw off (ap (λ (cs : List ℕ). b ∷ cs) rest)

pub up_to_first : (m : ℕ) (bs : List ℕ) (r : Option ℕ) → IsFirstByte (is_byte m) bs r → take (unwrap_or r (length bs)) bs ≡ up_to m bs
up_to_first m bs None out = up_to_at m bs (length bs) out (inl refl)
up_to_first m bs (Some k) first = up_to_at m bs k first.0.before (inr (first.0.high, first.1))

-- ---- the parts one by one

pub up_to_short : (m : ℕ) (bs : List ℕ) → length (up_to m bs) ≤ length bs
unfolding up_to
up_to_short m [] = omega arith
up_to_short m (b ∷ bs) = go (eqb b m) (up_to_short m bs)
  where
    go : (t : Bool) → length (up_to m bs) ≤ length bs → length (pick t [] (b ∷ up_to m bs)) ≤ length (b ∷ bs)
    go true h = omega arith
    go false h = omega arith

-- the parts after a mark that stands first here
abbrev pub further_parts : ℕ → List ℕ → List (List ℕ)
further_parts m [] = []
further_parts m (b ∷ bs) = parts m bs

parts_split : (m : ℕ) (bs : List ℕ) → parts m bs ≡ up_to m bs ∷ further_parts m (drop (length (up_to m bs)) bs)
unfolding parts up_to
parts_split m [] = refl
parts_split m (b ∷ bs) = go (eqb b m) (parts_split m bs)
  where
    go : (t : Bool) → parts m bs ≡ up_to m bs ∷ further_parts m (drop (length (up_to m bs)) bs)
        → let first = pick t [] (b ∷ up_to m bs) in
        pick t ([] ∷ parts m bs) (cons_first b (parts m bs)) ≡ first ∷ further_parts m (drop (length first) (b ∷ bs))
    go true e = refl
    go false e = rw e

pub parts-some : (m : ℕ) (bs : List ℕ) → 0 < length (parts m bs)
parts-some m bs = rw (parts_split m bs) (omega arith)

-- the same from a position on, where a stretch was found

pub part_length : (m at : ℕ) (bs : List ℕ) → length (up_to m (drop at bs)) ≤ length bs - at
part_length m at bs = omega (arith, up_to_short m (drop at bs), length-drop at bs)

pub part-within : (m : ℕ) (bs : List ℕ) (at : ℕ) (part : List ℕ) → at ≤ length bs → part ≡ up_to m (drop at bs)
    → at + length part ≤ length bs
part-within m bs at part h e = omega (arith, ap length e, up_to_short m (drop at bs), length-drop at bs)

pub part-first : (m : ℕ) (bs : List ℕ) (at : ℕ) (part : List ℕ) → part ≡ up_to m (drop at bs)
    → parts m (drop at bs) ≡ part ∷ further_parts m (drop (at + length part) bs)
part-first m bs at part e = rw (← drop-drop (length part) at bs, e) (parts_split m (drop at bs))

pub part_last : (m : ℕ) (bs : List ℕ) (at : ℕ) (part : List ℕ) → part ≡ up_to m (drop at bs) → length bs ≤ at + length part
    → parts m (drop at bs) ≡ part ∷ []
part_last m bs at part e h = part-first m bs at part e ∙ rw (drop_of_length-le bs h)

pub part_step : (m : ℕ) (bs : List ℕ) (at : ℕ) (part : List ℕ) → part ≡ up_to m (drop at bs) → at + length part < length bs
    → parts m (drop at bs) ≡ part ∷ parts m (drop (at + length part + 1) bs)
part_step m bs at part e h =
    part-first m bs at part e ∙ rw (drop-cons bs (at + length part) 0 h, add-one (at + length part))

-- ---- joined again

join_first : (m b : ℕ) (ps : List (List ℕ)) → join m (cons_first b ps) ≡ b ∷ join m ps
join_first m b [] = refl
join_first m b (p ∷ []) = refl
join_first m b (p ∷ q ∷ r) = refl

join_cons : (m : ℕ) (p : List ℕ) (ps : List (List ℕ)) → 0 < length ps → join m (p ∷ ps) ≡ p ++ m ∷ join m ps
join_cons m p [] h = absurd (omega arith)
join_cons m p (q ∷ r) h = refl

pub join-parts : (m : ℕ) (bs : List ℕ) → join m (parts m bs) ≡ bs
unfolding parts
join-parts m [] = refl
join-parts m (b ∷ bs) = go (eqb b m) refl (join-parts m bs)
  where
    go : (t : Bool) → eqb b m ≡ t → join m (parts m bs) ≡ bs → join m (parts m (b ∷ bs)) ≡ b ∷ bs
    go true e rest = rw (parts-here m b bs e, join_cons m [] (parts m bs) (parts-some m bs), rest, eqb-true b m e)
    go false e rest = rw (parts_on m b bs e, join_first m b (parts m bs), rest)

-- no byte is the mark: in a part, and in each of some parts
abbrev pub Clear : ℕ → List ℕ → Type 0
Clear m [] = Unit {0}
Clear m (b ∷ bs) = (eqb b m ≡ false) × Clear m bs

abbrev pub AllClear : ℕ → List (List ℕ) → Type 0
AllClear m [] = Unit {0}
AllClear m (p ∷ ps) = Clear m p × AllClear m ps

clear-append : (m : ℕ) (p q : List ℕ) → Clear m p → Clear m q → Clear m (p ++ q)
clear-append m [] q c d = d
clear-append m (b ∷ bs) q c d = (c.0, clear-append m bs q c.1 d)

-- so none is in such parts that another byte joins
pub join_clear : (n m : ℕ) → eqb n m ≡ false → (ps : List (List ℕ)) → AllClear m ps → Clear m (join n ps)
join_clear n m other [] c = tt
join_clear n m other (p ∷ []) c = c.0
join_clear n m other (p ∷ q ∷ r) c =
    clear-append m p (n ∷ join n (q ∷ r)) c.0 (other, join_clear n m other (q ∷ r) c.1)

parts_clear : (m : ℕ) (p : List ℕ) → Clear m p → parts m p ≡ p ∷ []
unfolding parts
parts_clear m [] c = refl
parts_clear m (b ∷ bs) c = parts_on m b bs c.0 ∙ ap (cons_first b) (parts_clear m bs c.1)

pub parts_after : (m : ℕ) (p rest : List ℕ) → Clear m p → parts m (p ++ m ∷ rest) ≡ p ∷ parts m rest
parts_after m [] rest c = parts-here m m rest (eq-eqb m m refl)
parts_after m (b ∷ bs) rest c = parts_on m b (bs ++ m ∷ rest) c.0 ∙ ap (cons_first b) (parts_after m bs rest c.1)

pub parts_join : (m : ℕ) (ps : List (List ℕ)) → 0 < length ps → AllClear m ps → parts m (join m ps) ≡ ps
parts_join m [] h c = absurd (omega arith)
parts_join m (p ∷ []) h c = parts_clear m p c.0
parts_join m (p ∷ q ∷ r) h c =
    rw (parts_after m p (join m (q ∷ r)) c.0, parts_join m (q ∷ r) (omega arith) c.1)
