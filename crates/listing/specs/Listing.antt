-- Document 01, "Text and listing", with the late lines of document 02, (b): the listing of a verdict, and what listing a set leaves
-- in a buffer. Assumes nothing.
use Rattle.std.specs.Prelude.{Result, Ok, Err, Bool, List, [], ◌∷◌, ◌++◌, ℕ, leb, length, get_or}
use Rattle.sets.specs.Choice.{pick}
use Rattle.sets.specs.Bounded.{every}
use Rattle.sets.specs.Collected.{collected}
use Rattle.sets.specs.Marks.{marked}
use Rattle.lines.specs.Decimal.{tab}
use Rattle.lines.specs.Line.{line, lines_of}
use Rattle.taskset.specs.declared.refusals.Refusal.{Refusal}
use Rattle.taskset.specs.declared.refusals.Refusal.TheVariants.{ShortBuffer}
use Rattle.taskset.specs.declared.Task.{Task}
use Rattle.taskset.specs.declared.Rule.{Rule}
use Rattle.taskset.specs.declared.TaskIndex.{TaskIndex}
use Rattle.taskset.specs.declared.TaskSet.{TaskSet}
use Rattle.taskset.specs.Model.{Lists, rule_at}
use Rattle.taskset.specs.Outcome.{Outcome, shown_as}
use Rattle.assignment.specs.Search.{index}
use Rattle.assignment.specs.LateTasks.{unassignable, late_response}
use Rattle.verdict.specs.declared.Finding.{Finding}
use Rattle.verdict.specs.declared.Finding.TheVariants.{Order, Core}
use Rattle.verdict.specs.declared.Verdict.{Verdict}
use Rattle.listing.specs.declared.Listed.{Listed}

-- ---- the numbers of a line after the head line

-- of an order: level, place, response
abbrev pub level_line : List TaskIndex → List ℕ → ℕ → List ℕ
level_line order responses k = k ∷ (get_or order k (index 0)).0 ∷ get_or responses k 0 ∷ []

-- of a core: rule place, u, l
abbrev pub rule_line : List Rule → ℕ → List ℕ
rule_line rules k = k ∷ (rule_at rules k).higher.0 ∷ (rule_at rules k).lower.0 ∷ []

-- of a late task: place, response
abbrev pub late_line : List Task → (ℕ → Bool) → ℕ → List ℕ
late_line tasks left i = i ∷ late_response tasks left i ∷ []

-- those of the first n levels of an order with its responses
abbrev pub level_lines : List TaskIndex → List ℕ → ℕ → List (List ℕ)
level_lines order responses n = collected every (level_line order responses) n

-- every level from 0; every rule of the core
abbrev pub lines_for : Lists → Verdict → Result Finding Refusal → List (List ℕ)
lines_for l v (Err k) = []
lines_for l v (Ok Order) = level_lines v.order v.responses (length l.tasks)
lines_for l v (Ok Core) = collected (marked v.core) (rule_line l.rules) (length l.rules)

-- every task that is left
abbrev pub late_lines : List Task → (ℕ → Bool) → List (List ℕ)
late_lines tasks left = collected left (late_line tasks left) (length tasks)

-- under a core; one with rules leaves nobody (`LateLines`)
abbrev pub late_for : Lists → Result Finding Refusal → List (List ℕ)
late_for l (Err k) = []
late_for l (Ok Order) = []
late_for l (Ok Core) = late_lines l.tasks (unassignable l)

-- ---- bytes

-- `order` or `core`, and a tab
abbrev pub word : Result Finding Refusal → List ℕ
word (Err k) = []
word (Ok Order) = 111 ∷ 114 ∷ 100 ∷ 101 ∷ 114 ∷ tab ∷ []
word (Ok Core) = 99 ∷ 111 ∷ 114 ∷ 101 ∷ tab ∷ []

-- `late`, and a tab
abbrev pub late_head : List ℕ
late_head = 108 ∷ 97 ∷ 116 ∷ 101 ∷ tab ∷ []

-- the head line, with the count of the lines after it, those, and the late lines
unfoldable pub listing_with : List ℕ → List (List ℕ) → List (List ℕ) → List ℕ
listing_with head lines lates = line head (length lines ∷ []) ++ lines_of [] lines ++ lines_of late_head lates

abbrev pub listing : Lists → Verdict → List ℕ
listing l v = let a = v.answer in listing_with (word a) (lines_for l v a) (late_for l a)

-- ---- into a buffer

-- a refused solving is refused for its reason
abbrev pub outcome_for : Lists → Verdict → Result Finding Refusal → Outcome
outcome_for l v (Err k) = Err k
outcome_for l v (Ok Order) = Ok (listing l v)
outcome_for l v (Ok Core) = Ok (listing l v)

abbrev pub outcome : Lists → Verdict → Outcome
outcome l v = outcome_for l v v.answer

-- 9 where the buffer is shorter than the listing
abbrev pub fitted : ℕ → Outcome → Outcome
fitted room (Err k) = Err k
fitted room (Ok bytes) = pick (leb (length bytes) room) (Ok bytes) (Err ShortBuffer)

-- what listing a set answers, with the set
abbrev pub listed : TaskSet → Outcome → Listed
listed s o = record { shown = shown_as o; set = s }

-- the bytes that are always enough for a listing
abbrev pub max_listing : ℕ
max_listing = 1_289
