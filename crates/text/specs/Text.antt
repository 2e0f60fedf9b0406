-- Document 01, "Text and listing": what a line asks, and what a text gives: a refusal, or the reference model's two lists.
-- Assumes nothing.
use Rattle.std.specs.Prelude.{Option, Some, None, Result, Ok, Err, Bool, true, false, ◌&&◌, List, [], ◌∷◌, map, ℕ, suc, ltb, eqb, length, drop}
use Rattle.sets.specs.Choice.{pick}
use Rattle.lines.specs.Decimal.{tab, feed, is_number, value, decimal}
use Rattle.lines.specs.Parts.{parts}
use Rattle.taskset.specs.declared.refusals.Refusal.{Refusal}
use Rattle.taskset.specs.declared.refusals.Refusal.TheVariants.{BadLine, LongText}
use Rattle.taskset.specs.declared.Call.{Call}
use Rattle.taskset.specs.declared.Call.TheVariants.{AddTask, AddRule}
use Rattle.taskset.specs.Model.{Lists, no_lists, refusal_of, extended}
use Rattle.taskset.specs.Adding.{holding}
use Rattle.taskset.specs.Numbers.{task_of, rule_of, task_size, rule_size}
use Rattle.text.specs.declared.RefusedAt.{RefusedAt}
use Rattle.text.specs.declared.Reading.{Reading}

-- the most bytes of a text
abbrev pub max_text : ℕ
max_text = 16_384

-- ---- a line

-- the bytes of `t` and `r`
abbrev pub letter_t : ℕ
letter_t = 116

abbrev pub letter_r : ℕ
letter_r = 114

-- a field that is this letter alone
abbrev pub is_letter : ℕ → List ℕ → Bool
is_letter letter [] = false
is_letter letter (b ∷ []) = eqb b letter
is_letter letter (b ∷ c ∷ bs) = false

unfoldable pub are_numbers : List (List ℕ) → Bool
are_numbers [] = true
are_numbers (f ∷ fs) = is_number f && are_numbers fs

-- fields that are this letter and then this many numbers
unfoldable pub has_form : ℕ → ℕ → List (List ℕ) → Bool
has_form letter count [] = false
has_form letter count (f ∷ fs) = is_letter letter f && eqb (length fs) count && are_numbers fs

-- the values of the fields after the letter
abbrev pub values_in : List (List ℕ) → List ℕ
values_in fs = map value (drop 1 fs)

-- `t` and the numbers of a row, or `r` and those of a rule; nothing else is a line
unfoldable pub asked : List (List ℕ) → Option Call
asked fs =
    pick (has_form letter_t task_size fs) (Some (AddTask (task_of (values_in fs))))
    (pick (has_form letter_r rule_size fs) (Some (AddRule (rule_of (values_in fs)))) None)

-- fields are parted by one tab
abbrev pub line_in : List ℕ → Option Call
line_in bytes = asked (parts tab bytes)

-- the fields of an accepted line: a letter, and numbers in decimal
abbrev pub lettered : ℕ → List ℕ → List (List ℕ)
lettered letter ns = (letter ∷ []) ∷ map decimal ns

-- ---- a text

-- what a text gives: the lists; or a refusal with its line, counted from 1, and no lists
pub record Read : Type 0 where
  pub answer : Result (Unit {0}) RefusedAt
  pub lists : Lists

-- a refusal that is no line's own has line 0
abbrev pub at_no_line : Refusal → RefusedAt
at_no_line refusal = record { line = 0; refusal = refusal }

abbrev pub refused_at : ℕ → Refusal → Read
refused_at line refusal = record { answer = Err (record { line = line; refusal = refusal }); lists = no_lists }

abbrev pub finished : Lists → Read
finished l = record { answer = Ok tt; lists = l }

-- the line's call is refused, or taken
abbrev pub by_refusal : ℕ → Result (Unit {0}) Refusal → Read → Read
by_refusal line (Ok u) rest = rest
by_refusal line (Err r) rest = refused_at line r

-- a line that cannot be read is 7; its call is refused, or the rest is read into the lists that it extends
abbrev pub by_line : Lists → ℕ → Option Call → (Lists → Read) → Read
by_line l line None rest = refused_at line BadLine
by_line l line (Some c) rest = by_refusal line (refusal_of l c) (rest (extended l c))

-- what stands after the last line feed is no line: 7, unless nothing stands there
abbrev pub at_end : Lists → ℕ → List ℕ → Read
at_end l line [] = finished l
at_end l line (b ∷ bs) = refused_at line BadLine

-- the parts between line feeds, each at its line number
unfoldable pub read_from : Lists → ℕ → List (List ℕ) → Read
read_from l line [] = finished l
read_from l line (last ∷ []) = at_end l line last
read_from l line (bytes ∷ more ∷ rest) = by_line l line (line_in bytes) (λ k. read_from k (suc line) (more ∷ rest))

-- 8 comes first, at line 0; lines are counted from 1
unfoldable pub reading : List ℕ → Read
reading text = pick (ltb max_text (length text)) (refused_at 0 LongText) (read_from no_lists 1 (parts feed text))

-- ---- the same as the code hands it over

-- the numbers of so many fields; none where a field is no number, or where they are fewer or more
abbrev pub numbers_in : ℕ → List (List ℕ) → Option (List ℕ)
numbers_in n fs = pick (eqb (length fs) n && are_numbers fs) (Some (map value fs)) None

-- with the set that holds the lists; a refused text gives an empty one
abbrev pub handed : Read → Reading
handed r = record { answer = r.answer; set = holding r.lists }

-- ---- the calls that a text's lines ask

-- a line that can't be read asks nothing
abbrev pub asking : Option Call → List Call → List Call
asking None calls = calls
asking (Some c) calls = c ∷ calls

unfoldable pub asked_in : List (List ℕ) → List Call
asked_in [] = []
asked_in (bytes ∷ rest) = asking (line_in bytes) (asked_in rest)

abbrev pub calls_asked : List ℕ → List Call
calls_asked text = asked_in (parts feed text)
