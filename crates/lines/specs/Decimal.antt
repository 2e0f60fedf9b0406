-- Document 01, "Text and listing": a number is 1 to 7 decimal digits with no leading zero, save 0 itself; and how a number is
-- written, in decimal without leading zeros. Assumes nothing.
use Rattle.std.specs.Prelude.{Option, Some, None, Bool, true, not, ◌&&◌, ◌||◌, List, [], ◌∷◌, ◌++◌, ℕ, zero, suc, ◌+◌, ◌-◌, ◌*◌, ◌/◌, ◌%◌, leb, ltb, eqb, length, get_or}
use Rattle.sets.specs.Choice.{pick}
use Rattle.lines.specs.declared.Field.{Field}

-- what parts the fields of a line, and what ends it
abbrev pub tab : ℕ
tab = 9

abbrev pub feed : ℕ
feed = 10

abbrev pub max_digits : ℕ
max_digits = 7

-- ---- read

-- the bytes of 0 to 9
abbrev pub is_digit : ℕ → Bool
is_digit b = leb 48 b && leb b 57

-- the value of one
abbrev pub digit_of : ℕ → Option ℕ
digit_of b = pick (is_digit b) (Some (b - 48)) None

unfoldable pub are_digits : List ℕ → Bool
are_digits [] = true
are_digits (b ∷ bs) = is_digit b && are_digits bs

-- the value of digits that stand after digits of the value v
unfoldable pub value_after : ℕ → List ℕ → ℕ
value_after v [] = v
value_after v (b ∷ bs) = value_after (v * 10 + (b - 48)) bs

abbrev pub value : List ℕ → ℕ
value = value_after 0

unfoldable pub is_number : List ℕ → Bool
is_number bs =
    leb 1 (length bs) && leb (length bs) max_digits && are_digits bs && (eqb (length bs) 1 || not (eqb (get_or bs 0 0) 48))

-- the number of a field that starts at a position, and where the field ends; none where its bytes are no number
abbrev pub number_from : ℕ → List ℕ → Option Field
number_from at bs = pick (is_number bs) (Some (record { value = value bs; end = at + length bs })) None

-- ---- written

-- the digits of n, the last one last; n steps are more than enough
unfoldable pub digits_in : ℕ → ℕ → List ℕ
digits_in zero n = (48 + n) ∷ []
digits_in (suc steps) n = pick (ltb n 10) ((48 + n) ∷ []) (digits_in steps (n / 10) ++ (48 + n % 10) ∷ [])

unfoldable pub decimal : ℕ → List ℕ
decimal n = digits_in n n

-- a number and the byte that ends its field
abbrev pub field : ℕ → ℕ → List ℕ
field n end = decimal n ++ end ∷ []
