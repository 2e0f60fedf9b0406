-- Document 01: what a text gets, from the C call and from the program `orders`. Assumes nothing.
use Rattle.std.specs.Prelude.{List, ◌∷◌, [], ℕ, ◌+◌, length, Result, Ok, Err}
use Rattle.lines.specs.Decimal.{tab}
use Rattle.lines.specs.Line as written
use Rattle.taskset.specs.Numbering.{number}
use Rattle.taskset.specs.Model.{Lists}
use Rattle.taskset.specs.Outcome.{Outcome}
use Rattle.text.specs.declared.RefusedAt.{RefusedAt}
use Rattle.text.specs.Text.{Read, reading}
use Rattle.verdict.specs.Verdict.{deciding}
use Rattle.listing.specs.Listing.{outcome}

-- a text that is read is solved and listed; one that is refused is refused for its reason
abbrev pub outcome_by : Lists → Result (Unit {0}) RefusedAt → Outcome
outcome_by l (Ok u) = outcome l (deciding l)
outcome_by l (Err r) = Err r.refusal

abbrev pub outcome_of : Read → Outcome
outcome_of r = outcome_by r.lists r.answer

abbrev pub answer_to : List ℕ → Outcome
answer_to text = outcome_of (reading text)

-- the line of a refusal: 0 unless it is a line's own
abbrev pub line_by : Result (Unit {0}) RefusedAt → ℕ
line_by (Ok u) = 0
line_by (Err r) = r.line

abbrev pub line_of : List ℕ → ℕ
line_of text = line_by (reading text).answer

-- as the code has it: the count of bytes, or the refusal with its line
abbrev pub answered : ℕ → Outcome → Result ℕ RefusedAt
answered line (Err k) = Err (record { line = line; refusal = k })
answered line (Ok bytes) = Ok (length bytes)

-- ---- the C call: a refusal's number, or 100 plus the count of bytes

abbrev pub host_number : Outcome → ℕ
host_number (Err k) = number k
host_number (Ok bytes) = 100 + length bytes

-- ---- the program: the listing, or `bad`, the line and the number

abbrev pub bad : List ℕ
bad = 98 ∷ 97 ∷ 100 ∷ tab ∷ []

abbrev pub bad_line : ℕ → ℕ → List ℕ
bad_line line k = written.line bad (line ∷ k ∷ [])

abbrev pub printed : ℕ → Outcome → List ℕ
printed line (Err k) = bad_line line (number k)
printed line (Ok bytes) = bytes

unfoldable pub report : List ℕ → List ℕ
report text = printed (line_of text) (answer_to text)

-- a `bad` line with two numbers of at most 20 digits
abbrev pub max_bad : ℕ
max_bad = 46
