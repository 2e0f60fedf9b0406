-- Laws of reading a line's fields one after the other, as numbers. Assumes nothing.
use Rattle.std.specs.Prelude.{◌≡◌, refl, Some, None, ◌⊎◌, ℕ, zero, suc, ◌+◌, ◌≤◌, ◌<◌, take, drop, set, replicate, eqb, ltb}
use Rattle.std.specs.Bool.{then_some}
use Rattle.std.proofs.Math.Path.{sym, ap}
use Rattle.std.proofs.Common.{◌∙◌, arith, inl, inr, add-one, take_all, length-take-le, length-set, drop_of_length-le, drop-cons, eq-eqb, ne_eqb, lt-ltb, le-ltb}
use Rattle.std.proofs.Math.Bool.{true, false}
use mathlib.Core.List.{List, [], ◌∷◌, ◌++◌, map, append-nil}
use Rattle.std.proofs.Math.ListN.{length, length-append, length-map}
use Rattle.std.proofs.Math.Seq.{append_snoc}
use Rattle.std.proofs.lemmas.Bool.{false≢true}
use Rattle.std.proofs.lemmas.List.{length-replicate, take_more_set}
use Rattle.sets.specs.Choice.{lt_or_le, and-false}
use Rattle.lines.specs.declared.Field.{Field}
use Rattle.lines.specs.Decimal.{tab, value, is_number, number_from}
use Rattle.lines.specs.Parts.{parts, up_to}
use Rattle.lines.specs.PartsLaws.{further_parts, parts-some, part-within, part-first, up_to_end}
use Rattle.lines.specs.Reading.{number_good, number_bad}
use Rattle.text.specs.Text.{are_numbers, numbers_in}

-- the fields from a position on; none past the line's end
abbrev pub fields_at : ℕ → List ℕ → List (List ℕ)
fields_at at line = further_parts tab (drop at (tab ∷ line))

module _ (at : ℕ) (line : List ℕ) where
  pub fields_some : at ≤ length line → fields_at at line ≡ parts tab (drop at line)
  fields_some = go at
    where
      go : (k : ℕ) → k ≤ length line → fields_at k line ≡ parts tab (drop k line)
      go zero h = refl
      go (suc k) h = rw (drop-cons line k 0 h)

  pub fields_none : length line < at → fields_at at line ≡ []
  fields_none h = rw (drop_of_length-le (tab ∷ line) {i = at} (omega arith))

-- ---- fields that are read

-- the fields from a position on, so far as they are read: those that are left are numbers where all are, and their values come
-- after the first k of these n
pub record FieldsRead (line : List ℕ) (from at : ℕ) (values : List ℕ) (k n : ℕ) : Type 0 where
  pub good : are_numbers (parts tab (drop from line)) ≡ are_numbers (fields_at at line)
  pub held : map value (parts tab (drop from line)) ≡ take k values ++ map value (fields_at at line)
  pub within : k ≤ n
  pub room : length values ≡ n

pub none_read : (line : List ℕ) (from n : ℕ) → from ≤ length line → FieldsRead line from from (replicate n 0) 0 n
none_read line from n h =
    let all = fields_some from line h in
    record { good = rw all; held = rw all; within = omega arith; room = length-replicate n 0 }

module _ {line : List ℕ} {from at : ℕ} {values : List ℕ} {k n : ℕ} (h : FieldsRead line from at values k n) where
  abbrev fields : List (List ℕ)
  fields = parts tab (drop from line)

  -- the field at the position
  abbrev here : List ℕ
  here = up_to tab (drop at line)

  next : at ≤ length line → fields_at at line ≡ here ∷ further_parts tab (drop (at + length here) line)
  next in_line = fields_some at line in_line ∙ part-first tab line at here refl

  long : length fields ≡ k + length (fields_at at line)
  long = omega (
    arith,
    h.within,
    h.room,
    ap length h.held,
    length-append (take k values) (map value (fields_at at line)),
    length-take-le k values (omega (arith, h.within, h.room)),
    length-map fields value,
    length-map (fields_at at line) value,
  )

  -- it is no number, or none stands there
  pub field_bad : k < n → number_from at here ≡ None → None ≡ numbers_in n fields
  unfolding are_numbers
  field_bad few bad = go (lt_or_le (length line) at)
    where
      go : (length line < at) ⊎ (at ≤ length line) → None ≡ numbers_in n fields
      go (inl over) = rw (ne_eqb (length fields) n (omega (arith, long, ap length (fields_none at line over))))
      go (inr in_line) =
          let none : are_numbers fields ≡ false = h.good ∙ rw (next in_line, number_bad at here bad) in
          rw (none, and-false (eqb (length fields) n))

  module _ {f : Field} (good : number_from at here ≡ Some f) where
    in_line : at ≤ length line
    unfolding is_number
    in_line = go (lt_or_le (length line) at)
      where
        go : (length line < at) ⊎ (at ≤ length line) → at ≤ length line
        go (inl over) = absurd (false≢true (rw (up_to_end tab line at (omega arith)) at (number_good at here f good).0))
        go (inr l) = l

    pub field_within : f.end ≤ length line
    field_within = omega (arith, part-within tab line at here in_line refl, (number_good at here f good).2)

    pub field_read : k < n → FieldsRead line from (f.end + 1) (set values k f.value) (k + 1) n
    unfolding are_numbers
    field_read few =
        let (is, same, end) = number_good at here f good in
        let more : fields_at (f.end + 1) line ≡ further_parts tab (drop (at + length here) line) = rw (add-one, end) in
        record {
          good = h.good ∙ rw (next in_line, is, more);
          held =
              h.held
              ∙ rw (next in_line, same, more, take_more_set values k f.value (omega (arith, h.room)))
              (sym (append_snoc (take k values) f.value (map value (further_parts tab (drop (at + length here) line)))));
          within = omega arith;
          room = length-set values k f.value ∙ h.room;
        }

  -- so many are read: they are all, or others follow
  pub fields_end : n ≤ k → then_some (ltb (length line) at) values ≡ numbers_in n fields
  unfolding are_numbers
  fields_end full = go (lt_or_le (length line) at)
    where
      go : (length line < at) ⊎ (at ≤ length line) → then_some (ltb (length line) at) values ≡ numbers_in n fields
      go (inl over) =
          let none = fields_none at line over in
          let all : length fields ≡ n = omega (arith, h.within, long, ap length none) in
          let good : are_numbers fields ≡ true = h.good ∙ rw none in
          let held : map value fields ≡ values =
          h.held ∙ rw none (append-nil (take k values) ∙ take_all k values (omega (arith, h.room))) in
          rw (lt-ltb (length line) at over, eq-eqb (length fields) n all, good, held)
      go (inr more) =
          let some = parts-some tab (drop at line) in
          rw (le-ltb (length line) at more, ne_eqb (length fields) n (omega (arith, h.within, long, ap length (fields_some at line more))))

-- what each return gives, and that the next position fits
pub ruleset field_laws = (field_bad, field_within, fields_end)
