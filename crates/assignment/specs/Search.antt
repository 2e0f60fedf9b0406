-- What the arrays of a search hold: document 01's 64 places with the 64 responses beside them, highest level first, and the
-- tasks that have no level. Over any test. Assumes nothing.
use Rattle.std.specs.Prelude.{Option, None, is_some, unwrap_or, option_map, MatchOption, IfSome}
use Rattle.std.specs.Prelude.{◌≡◌, Bool, false, List, [], ◌∷◌, ◌++◌, map, ◌⊎◌, ℕ, ◌-◌, ◌≤◌, ◌<◌, T, length, set, replicate}
use Rattle.sets.specs.Choice.{pick}
use Rattle.sets.specs.Bounded.{without, greatest}
use Rattle.sets.specs.Marks.{marked}
use Rattle.taskset.specs.declared.TaskIndex.{TaskIndex}
use Rattle.taskset.specs.declared.PriorityLevel.{PriorityLevel}
use Rattle.taskset.specs.declared.Rule.{Rule}
use Rattle.taskset.specs.Refusals.{max_tasks, max_rules, Between}
use Rattle.taskset.specs.Model.{rule_at}
use Rattle.assignment.specs.declared.Choice.{Choice}
use Rattle.assignment.specs.declared.Search.{Search}
use Rattle.assignment.specs.declared.Hints.{Hints}
use Rattle.assignment.specs.Orders.{no_rule}
use Rattle.assignment.specs.Audsley.{Test, Problem, passes, unassigned, Filled, Stuck, fill}

-- few enough rules, between indices that an array of marks has
pub record Indexed (rules : List Rule) : Type 0 where
  pub few : length rules ≤ max_rules
  pub each : (k : ℕ) → k < length rules → Between max_tasks (rule_at rules k)

-- ---- who takes a level

abbrev pub index : ℕ → TaskIndex
index i = record { 0 = i }

-- the time of a response that was found
abbrev pub time : Option ℕ → ℕ
time r = unwrap_or r 0

-- a ready task's response with the others that are left above it; late where it isn't ready
abbrev pub candidate : Test → (ℕ → Bool) → (ℕ → Bool) → ℕ → Option ℕ
candidate test ready left i = pick (ready i) (test i (without left i)) None

-- a candidate is within its deadline
abbrev pub within : (ℕ → Option ℕ) → ℕ → Bool
within candidates i = is_some (candidates i)

-- and takes the level with its response
abbrev pub choice_of : (ℕ → Option ℕ) → ℕ → Choice
choice_of candidates i = record { task = index i; response = time (candidates i) }

-- of n candidates within the deadline, the one of the greatest index does
unfoldable pub chosen : ℕ → (ℕ → Option ℕ) → Option Choice
chosen n candidates = option_map (choice_of candidates) (greatest n (within candidates))

-- any of them does, and nobody only where there is none
abbrev pub AnyOf : ℕ → (ℕ → Option ℕ) → Option Choice → Type 0
AnyOf n candidates r =
    MatchOption r ((i : ℕ) → i < n → T (within candidates i) → ⊥) (λ c. (c.task.0 < n) × T (within candidates c.task.0))

-- ---- what the arrays hold

-- an array of 64 entries, with those of the lowest levels of n filled
abbrev pub lowest : {A : Type 0} → ℕ → A → List A → List A
lowest n d xs = replicate (n - length xs) d ++ (xs ++ replicate (max_tasks - n) d)

-- a search among n tasks that has given the lowest levels to those of `low`, with these times beside them
pub record Holds (n : ℕ) (low times : List ℕ) (s : Search) : Type 0 where
  pub order : s.order ≡ lowest n (index 0) (map index low)
  pub responses : s.responses ≡ lowest n 0 times
  pub long : length times ≡ length low
  pub free : s.free ≡ n - length low
  pub left : marked s.left ≡ unassigned n low

-- the candidates for its next level, of those that are ready
abbrev pub candidates : Problem → (ℕ → Bool) → Search → ℕ → Option ℕ
candidates p ready s = candidate p.test ready (marked s.left)

-- the lowest of the levels that are not filled yet
abbrev pub lowest_free : ℕ → PriorityLevel
lowest_free free = record { 0 = free - 1 }

-- the search after a task took it
abbrev pub placed : Search → Choice → Search
placed s c =
    let level = lowest_free s.free in
    record {
      order = set s.order level.0 c.task;
      responses = set s.responses level.0 c.response;
      free = level.0;
      left = set s.left c.task.0 false;
    }

-- a search that may have filled its levels so, with these rules active
pub record Searched (p : Problem) (active : ℕ → Bool) (s : Search) : Type 0 where
  pub low : List ℕ
  pub times : List ℕ
  pub filled : Filled p active low
  pub holds : Holds p.tasks low times s

-- and that has ended: every level is filled, or no task may take the next
pub record Ended (p : Problem) (active : ℕ → Bool) (s : Search) : Type 0 where
  pub searched : Searched p active s
  pub ends : (s.free ≡ 0) ⊎ Stuck p active (marked s.left)

-- ---- what the assignment's own search holds

-- the response of each task of `low`, with the tasks above it that had no level when it got its own
abbrev pub responses : Problem → List ℕ → List ℕ
responses p [] = []
responses p (i ∷ low) = time (p.test i (unassigned p.tasks (i ∷ low))) ∷ responses p low

-- the levels of `low`, with their tasks' responses
abbrev pub HoldsLevels : Problem → List ℕ → Search → Type 0
HoldsLevels p low s = Holds p.tasks low (responses p low) s

-- r goes on from a search to where the assignment ends
abbrev pub Assigns : Problem → (ℕ → Bool) → Search → Search → Type 0
Assigns p active from r = (low : List ℕ) → HoldsLevels p low from → HoldsLevels p (fill p active (p.tasks - length low) low) r

-- ---- what spares responses

-- tasks known to pass with the others that are left above them
unfoldable pub Known : Problem → (ℕ → Bool) → (ℕ → Bool) → Type 0
Known p left known = (i : ℕ) → i < p.tasks → T (known i) → T (passes p i (without left i))

-- hints are right: known tasks, and another search, with any rules or none
pub record Right (p : Problem) (left : ℕ → Bool) (h : Hints) : Type 0 where
  pub known : Known p left (marked h.known.now)
  pub other : Searched p no_rule h.other.now

-- where any are given
abbrev pub Helps : Problem → (ℕ → Bool) → Option Hints → Type 0
Helps p left h = IfSome h (Right p left)

-- who takes a level then: any of the candidates with hints, the greatest without
pub record Chose (n : ℕ) (candidates : ℕ → Option ℕ) (h : Option Hints) (r : Option Choice) : Type 0 where
  pub any : AnyOf n candidates r
  pub greatest : h ≡ None → r ≡ chosen n candidates
