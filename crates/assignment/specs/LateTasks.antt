-- Document 02, (b): late, and by how much. The tasks that had no level when the search of (a), run without rules, got stuck, and
-- the response of each. Assumes nothing.
use Rattle.std.specs.Prelude.{◌≡◌, Bool, List, ◌↔◌, ℕ, suc, ◌≤◌, ◌<◌, T, length, get_or, drop}
use Rattle.sets.specs.Bounded.{Subset, without}
use Rattle.taskset.specs.declared.Task.{Task}
use Rattle.taskset.specs.declared.Rule.{Rule}
use Rattle.taskset.specs.Model.{Lists}
use Rattle.response.specs.declared.Timing.TheVariants.{Missed, PastPeriod}
use Rattle.response.specs.Timing.{SaysTiming, timing_of, reported}
use Rattle.assignment.specs.Orders.{MeetsDeadline, SomeOrder, no_rule}
use Rattle.assignment.specs.Canonical.{MayTake}
use Rattle.assignment.specs.Audsley.{unassigned, assign, problem}

-- ---- by the words, for any meaning of a deadline met

module _ (n : ℕ) (rules : List Rule) (Meets : ℕ → (ℕ → Bool) → Type 0) (active : ℕ → Bool) where
  -- the tasks of `low`, highest first, took levels from the lowest upward, each a level that it might take
  abbrev pub EachMay : List ℕ → Type 0
  EachMay low = (k : ℕ) → k < length low → MayTake rules Meets active (unassigned n (drop (suc k) low)) (get_or low k 0)

  -- a search that has ended: of the others none may take the next
  pub record EndedSearch (low : List ℕ) : Type 0 where
    pub each : EachMay low
    pub nobody : (i : ℕ) → MayTake rules Meets active (unassigned n low) i → ⊥

  -- the search of (a): of the tasks that may take a level, the one with the greatest index (place) takes it
  pub record CanonicalSearch (low : List ℕ) : Type 0 where
    pub ended : EndedSearch low
    pub greatest : (k : ℕ) → k < length low → (i : ℕ) → MayTake rules Meets active (unassigned n (drop (suc k) low)) i → i ≤ get_or low k 0

-- each of these tasks misses its deadline with the others of them above it
abbrev pub AllMiss : ℕ → (ℕ → (ℕ → Bool) → Type 0) → (ℕ → Bool) → Type 0
AllMiss n Meets set = (i : ℕ) → i < n → T (set i) → Meets i (without set i) → ⊥

-- ---- by the response-time equation

-- the search of (a), run without rules, ends with these levels; and so may a search in which any of the tasks that may takes each
abbrev pub SearchEnds : Lists → List ℕ → Type 0
SearchEnds l low = CanonicalSearch (length l.tasks) l.rules (MeetsDeadline l.tasks) no_rule low

abbrev pub AnySearchEnds : Lists → List ℕ → Type 0
AnySearchEnds l low = EndedSearch (length l.tasks) l.rules (MeetsDeadline l.tasks) no_rule low

abbrev pub AllLate : Lists → (ℕ → Bool) → Type 0
AllLate l set = AllMiss (length l.tasks) (MeetsDeadline l.tasks) set

-- what is reported of a task: its response, or 0, which stands for no response
pub record LateResponse (tasks : List Task) (i : ℕ) (above : ℕ → Bool) (r : ℕ) : Type 0 where
  -- the least solution of the equation, beyond the deadline and within the period
  pub positive : 1 ≤ r → SaysTiming tasks i above (Missed r)
  -- none lies within the period
  pub zero : r ≡ 0 → SaysTiming tasks i above PastPeriod

-- what is promised of the tasks left, and of the responses that are reported of them
pub record LateTasks (l : Lists) (left : ℕ → Bool) (response : ℕ → ℕ) : Type 0 where
  -- the tasks that had no level when the search of (a), run without rules, got stuck
  pub search : (low : List ℕ) × SearchEnds l low × (unassigned (length l.tasks) low ≡ left)
  -- whichever of the tasks that may takes each level
  pub every : (low : List ℕ) → AnySearchEnds l low → unassigned (length l.tasks) low ≡ left
  -- so it is a fact about the tasks: each misses its deadline with the others above it, and every set of which that holds lies
  -- within this one
  pub misses : AllLate l left
  pub largest : (set : ℕ → Bool) → AllLate l set → Subset (length l.tasks) set left
  -- some task is left exactly when no order meets every deadline even with no rules
  pub anyone : ((i : ℕ) × T (left i)) ↔ (SomeOrder l no_rule → ⊥)
  -- the response of each, with the others that are left above it
  pub responses : (i : ℕ) → T (left i) → LateResponse l.tasks i (without left i) (response i)

-- ---- the same as functions

-- the tasks that the assignment leaves with no rule active
unfoldable pub unassignable : Lists → ℕ → Bool
unassignable l = unassigned (length l.tasks) (assign (problem l) no_rule)

-- the response of a task, as it is reported, with the others that are left above it
abbrev pub late_response : List Task → (ℕ → Bool) → ℕ → ℕ
late_response tasks left i = reported (timing_of tasks i (without left i))
