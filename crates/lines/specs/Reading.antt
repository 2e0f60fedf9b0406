-- Laws of reading a field a digit at a time: the bytes so far are the ones that are written for the value so far.
-- Assumes nothing.
use Rattle.std.specs.Prelude.{◌≡◌, refl, Option, Some, None, Bool, true, false, ◌⊎◌, List, [], ◌∷◌, ◌++◌, ℕ, ◌+◌, ◌-◌, ◌*◌, ◌^◌, ◌≤◌, ◌<◌, T, eqb, length, get_or, drop}
use Rattle.std.proofs.Common.{sym, ap, ◌∙◌, true≢false, arith, append_assoc, append-nil, length-append, length-drop, inl, inr, eq-eqb, ne_eqb}
use Rattle.std.proofs.Math.Nat.{pow-le-pow_right}
use Rattle.std.proofs.lemmas.List.{drop_more, take_rest}
use Rattle.sets.specs.Choice.{pick, true→T, refuted→false, false→refuted, and_left, and_right}
use Rattle.lines.specs.declared.Field.{Field}
use Rattle.lines.specs.Decimal.{tab, max_digits, is_digit, digit_of, are_digits, value, is_number, number_from, decimal}
use Rattle.lines.specs.DecimalLaws.{decimal_one}
use Rattle.lines.specs.ReadBack.{decimal_digits, decimal-value, decimal_snoc, digit_bounds, number_bound, number_parts}
use Rattle.lines.specs.ReadBack.{not-zero, read_back}
use Rattle.lines.specs.Parts.{up_to}
use Rattle.lines.specs.PartsLaws.{up_to-here, up_to_on, up_to_end}

-- ---- bytes that are no number

no_number : (at : ℕ) (bs : List ℕ) → (T (is_number bs) → ⊥) → None ≡ number_from at bs
no_number at bs h = rw (refuted→false (is_number bs) h)

none_at_all : (at : ℕ) → None ≡ number_from at []
unfolding is_number
none_at_all at = refl

-- one among others is a digit, where all are
digit_among : (ds : List ℕ) (b : ℕ) (rest : List ℕ) → T (are_digits (ds ++ b ∷ rest)) → T (is_digit b)
unfolding are_digits
digit_among [] b rest t = and_left (is_digit b) (are_digits rest) t
digit_among (d ∷ ds) b rest t = digit_among ds b rest (and_right (is_digit d) (are_digits (ds ++ b ∷ rest)) t)

-- one among them is no digit
stray : (at : ℕ) (ds : List ℕ) (b : ℕ) (rest : List ℕ) → is_digit b ≡ false → None ≡ number_from at (ds ++ b ∷ rest)
stray at ds b rest isnt =
    no_number at (ds ++ b ∷ rest) (λ t. false→refuted (is_digit b) isnt (digit_among ds b rest (number_parts (ds ++ b ∷ rest) t).1))

-- the greatest number that another digit may follow: one of 6 digits
abbrev pub max_front : ℕ
max_front = 999_999

-- a byte stands after the digits of a greater one, or of 0
over : (at v b : ℕ) (rest : List ℕ) → (v ≡ 0) ⊎ (max_front < v) → None ≡ number_from at (decimal v ++ b ∷ rest)
over at v b rest full = no_number at (decimal v ++ b ∷ rest) (go full)
  where
    go : (v ≡ 0) ⊎ (max_front < v) → T (is_number (decimal v ++ b ∷ rest)) → ⊥
    go (inl none) t =
        let same : T (is_number (48 ∷ b ∷ rest)) = rw (none, decimal_one 0 (omega arith)) at t in
        not-zero (length (48 ∷ b ∷ rest)) 48 (omega arith) (number_parts (48 ∷ b ∷ rest) same).2 refl
    go (inr many) t =
        let few = (number_parts (decimal v ++ b ∷ rest) t).0 in
        let short : length (decimal v) ≤ 6 = omega (arith, length-append (decimal v) (b ∷ rest)) in
        omega (arith, number_bound (decimal v) (decimal_digits v), decimal-value v, pow-le-pow_right {n = 10} (omega arith) short)

-- what a byte's value tells
digit_is : (b : ℕ) {w : ℕ} → Some w ≡ digit_of b → T (is_digit b) × (w ≡ b - 48)
digit_is b {w} = go (is_digit b) refl
  where
    go : (c : Bool) → is_digit b ≡ c → Some w ≡ pick c (Some (b - 48)) None → T (is_digit b) × (w ≡ b - 48)
    go true e f = (true→T (is_digit b) e, cc)
    go false e f = absurd (true≢false (cc))

digit_isnt : (b : ℕ) → None ≡ digit_of b → is_digit b ≡ false
digit_isnt b = go (is_digit b) refl
  where
    go : (c : Bool) → is_digit b ≡ c → None ≡ pick c (Some (b - 48)) None → is_digit b ≡ false
    go true e f = absurd (true≢false (cc))
    go false e f = e

-- ---- the field of a line that starts at a position

abbrev pub field_from : List ℕ → ℕ → List ℕ
field_from line at = up_to tab (drop at line)

pub field_none : (line : List ℕ) (at : ℕ) → length line ≤ at → None ≡ number_from at (field_from line at)
field_none line at h = rw (up_to_end tab line at h) (none_at_all at)

-- the rest of the line stands after the field's first byte; that byte and the first k of the rest are the digits of v
pub record DigitsRead (line : List ℕ) (at v : ℕ) (rest : List ℕ) (k : ℕ) : Type 0 where
  pub whole : decimal v ++ up_to tab (drop k rest) ≡ field_from line at
  pub counted : length (decimal v) ≡ k + 1
  pub small : v < 10 ^ max_digits
  pub long : length line ≡ at + 1 + length rest

module _ (line : List ℕ) (at : ℕ) {b : ℕ} {rest : List ℕ} (e : drop at line ≡ b ∷ rest) where
  pub first_stray : None ≡ digit_of b → None ≡ number_from at (field_from line at)
  first_stray isnt = rw e (go (eqb b tab) refl)
    where
      go : (c : Bool) → eqb b tab ≡ c → None ≡ number_from at (up_to tab (b ∷ rest))
      go true f = rw (up_to-here tab b rest f) (none_at_all at)
      go false f = rw (up_to_on tab b rest f) (stray at [] b (up_to tab rest) (digit_isnt b isnt))

  pub first_read : {w : ℕ} → Some w ≡ digit_of b → DigitsRead line at w rest 0
  first_read {w} is =
      let (digit, same) = digit_is b is in
      let range = digit_bounds b digit in
      let back : 48 + w ≡ b = omega arith in
      let one : decimal w ≡ b ∷ [] = decimal_one w (omega arith) ∙ rw back in
      record {
        whole = rw (e, one, up_to_on tab b rest (ne_eqb b tab (omega arith)));
        counted = ap length one;
        small = omega arith;
        long = omega (arith, ap length e, length-drop at line);
      }

module _ {line : List ℕ} {at v : ℕ} {rest : List ℕ} {k : ℕ} (d : DigitsRead line at v rest k) where
  -- they are all
  all_read : {end : ℕ} → end ≡ at + 1 + k → up_to tab (drop k rest) ≡ []
      → Some (record { value = v; end = end }) ≡ number_from at (field_from line at)
  all_read {end} long e =
      let (is, same) = read_back v d.small in
      let all : field_from line at ≡ decimal v = sym d.whole ∙ rw e (append-nil (decimal v)) in
      let same_end : end ≡ at + length (decimal v) = omega (arith, d.counted) in
      rw (all, is, same, same_end)

  pub read_last : k ≤ length rest → length rest ≤ k → Some (record { value = v; end = length line }) ≡ number_from at (field_from line at)
  read_last h i = all_read (omega (arith, d.long)) (up_to_end tab rest k i)

  -- a byte stands after them
  module _ (h : k < length rest) where
    abbrev byte : ℕ
    byte = get_or rest k 0

    abbrev more : List ℕ
    more = up_to tab (drop (k + 1) rest)

    pub read_tab : byte ≡ tab → Some (record { value = v; end = at + 1 + k }) ≡ number_from at (field_from line at)
    read_tab e = all_read refl (rw (drop_more rest k 0 h) (up_to-here tab byte (drop (k + 1) rest) (eq-eqb byte tab e)))

    module _ (other : byte ≡ tab → ⊥) where
      here : field_from line at ≡ decimal v ++ byte ∷ more
      here = sym d.whole ∙ rw (drop_more rest k 0 h, up_to_on tab byte (drop (k + 1) rest) (ne_eqb byte tab other))

      -- none may, or it is no digit
      pub read_over : (v ≡ 0) ⊎ (max_front < v) → None ≡ number_from at (field_from line at)
      read_over full = rw here (over at v byte more full)

      pub read_stray : None ≡ digit_of byte → None ≡ number_from at (field_from line at)
      read_stray isnt = rw here (stray at (decimal v) byte more (digit_isnt byte isnt))

      -- or it is one
      pub read_more : {w : ℕ} → 1 ≤ v → v ≤ max_front → Some w ≡ digit_of byte → DigitsRead line at (v * 10 + w) rest (k + 1)
      read_more {w} some few is =
          let (digit, same) = digit_is byte is in
          let range = digit_bounds byte digit in
          let one : decimal (v * 10 + w) ≡ decimal v ++ byte ∷ [] = rw same (decimal_snoc v byte some digit) in
          record {
            whole = rw (one, append_assoc) (sym here);
            counted = omega (arith, ap length one, length-append (decimal v) (byte ∷ []), d.counted);
            small = omega arith;
            long = d.long;
          }

-- what each return gives
pub ruleset field_laws = (take_rest, field_none, first_stray, read_last, read_tab, read_over, read_stray)

-- ---- what an answer says of the bytes

pub number_good : (at : ℕ) (bs : List ℕ) (f : Field) → number_from at bs ≡ Some f
    → (is_number bs ≡ true) × (value bs ≡ f.value) × (at + length bs ≡ f.end)
number_good at bs f = go (is_number bs) refl
  where
    go : (b : Bool) → is_number bs ≡ b → pick {A = Option Field} b (Some (record { value = value bs; end = at + length bs })) None ≡ Some f
        → (is_number bs ≡ true) × (value bs ≡ f.value) × (at + length bs ≡ f.end)
    go true e g = (e, cc, cc)
    go false e g = absurd (true≢false (cc))

pub number_bad : (at : ℕ) (bs : List ℕ) → number_from at bs ≡ None → is_number bs ≡ false
number_bad at bs = go (is_number bs) refl
  where
    go : (b : Bool) → is_number bs ≡ b → pick {A = Option Field} b (Some (record { value = value bs; end = at + length bs })) None ≡ None → is_number bs ≡ false
    go true e f = absurd (true≢false (cc))
    go false e f = e
