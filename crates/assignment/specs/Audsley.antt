-- The revised Audsley assignment of source document 001, over any test of a task at a level: levels are filled from the lowest
-- upward, and of the tasks that may take one the task with the greatest index takes it, as document 02 has it in (a). `Canonical`
-- says that without the search; for whether an order is found the choice doesn't matter (`Decision`). Assumes nothing.
use Rattle.std.specs.Prelude.{Option, is_some}
use Rattle.std.specs.Prelude.{Bool, ◌&&◌, not, List, [], ◌∷◌, ℕ, zero, suc, ◌<◌, T, leb, ltb, eqb, length}
use Rattle.sets.specs.Choice.{option}
use Rattle.sets.specs.Bounded.{without, all, greatest}
use Rattle.sets.specs.Rank.{rank}
use Rattle.taskset.specs.declared.Task.{Task}
use Rattle.taskset.specs.declared.Rule.{Rule}
use Rattle.taskset.specs.Model.{Lists, task_at, rule_at}
use Rattle.response.specs.Equation.{response_time}

-- a test of a task with a set of tasks above it and all others below: its response, or that it is late
abbrev pub Test : Type 0
Test = ℕ → (ℕ → Bool) → Option ℕ

-- tasks 0 to n − 1, rules between them, and the test
pub record Problem : Type 0 where
  pub tasks : ℕ
  pub rules : List Rule
  pub test : Test

-- the same without rules
abbrev pub without_rules : Problem → Problem
without_rules p = record { tasks = p.tasks; rules = []; test = p.test }

abbrev pub passes : Problem → ℕ → (ℕ → Bool) → Bool
passes p i above = is_some (p.test i above)

abbrev pub Passes : Problem → ℕ → (ℕ → Bool) → Type 0
Passes p i above = T (passes p i above)

-- rule k is active, and puts below task i a task that is left without a level
abbrev pub blocks : List Rule → (ℕ → Bool) → (ℕ → Bool) → ℕ → ℕ → Bool
blocks rules active left i k = active k && left (rule_at rules k).lower.0 && eqb (rule_at rules k).higher.0 i

-- a task left without a level, of which every task that an active rule puts below it has one
unfoldable pub ready : List Rule → (ℕ → Bool) → (ℕ → Bool) → ℕ → Bool
ready rules active left i = left i && all (length rules) (λ k. not (blocks rules active left i k))

-- the tasks of n that are left without a level, when those of `low` have the lowest ones
unfoldable pub unassigned : ℕ → List ℕ → ℕ → Bool
unassigned n low i = ltb i n && leb (length low) (rank low i)

module _ (p : Problem) (active : ℕ → Bool) where
  -- a ready task that passes with all others that are left above it
  unfoldable pub may_take : (ℕ → Bool) → ℕ → Bool
  may_take left i = ready p.rules active left i && passes p i (without left i)

  -- the next levels above those of `low`, as many as the first argument says; it stops where no task may take the level
  unfoldable pub fill : ℕ → List ℕ → List ℕ
  fill zero low = low
  fill (suc levels) low = option low (λ i. fill levels (i ∷ low)) (greatest p.tasks (may_take (unassigned p.tasks low)))

  -- the tasks that got a level, highest first; the others are the unassigned ones of this list
  abbrev pub assign : List ℕ
  assign = fill p.tasks []

  -- every task got one
  unfoldable pub feasible : Bool
  feasible = eqb (length assign) p.tasks

-- ---- whoever takes each level

-- levels that tasks may have taken, from the lowest upward, with these rules active
pub data Filled (p : Problem) (active : ℕ → Bool) : List ℕ → Type 0 where
  empty : Filled p active []
  level : (i : ℕ) (low : List ℕ) → i < p.tasks → T (may_take p active (unassigned p.tasks low) i) → Filled p active low
      → Filled p active (i ∷ low)

-- no task may take the next level
abbrev pub Stuck : Problem → (ℕ → Bool) → (ℕ → Bool) → Type 0
Stuck p active left = (i : ℕ) → i < p.tasks → T (may_take p active left i) → ⊥

-- ---- document 01's test

-- the response of task i, searched for up to its deadline
abbrev pub response_at : List Task → Test
response_at tasks i above = response_time tasks i above (task_at tasks i).deadline

abbrev pub problem : Lists → Problem
problem l = record { tasks = length l.tasks; rules = l.rules; test = response_at l.tasks }

-- and of tasks without rules
abbrev pub bare : List Task → Problem
bare tasks = problem (record { tasks = tasks; rules = [] })
