-- Document 01, "Orders and cores": orders of n tasks, the rules an order keeps, and validity, first for any meaning of a
-- deadline met, then for document 01's own. Assumes nothing.
use Rattle.std.specs.Prelude.{Bool, true, false, List, ℕ, ◌+◌, ◌≤◌, ◌<◌, T, ltb, length, get_or}
use Rattle.sets.specs.Bounded.{without, others}
use Rattle.sets.specs.Rank.{rank, Member, Distinct}
use Rattle.taskset.specs.declared.Task.{Task}
use Rattle.taskset.specs.declared.Rule.{Rule}
use Rattle.taskset.specs.Model.{Lists, task_at, rule_at}
use Rattle.response.specs.Equation.{demand, IsWindow}

-- a list with every task exactly once, highest priority first
pub record IsOrder (n : ℕ) (order : List ℕ) : Type 0 where
  pub only : (k : ℕ) → k < length order → get_or order k 0 < n
  pub every : (i : ℕ) → i < n → Member order i
  pub once : Distinct order

-- hp(i), the tasks of a higher priority than task i: those that stand before it
abbrev pub hp : List ℕ → ℕ → ℕ → Bool
hp order i j = ltb (rank order j) (rank order i)

-- the rule's higher task stands before its lower one
abbrev pub Keeps : List ℕ → Rule → Type 0
Keeps order r = rank order r.higher.0 < rank order r.lower.0

-- an order that keeps every active rule, and in which each task meets its deadline with the tasks before it above it; when
-- task i does so with the tasks of `above` above it, `Meets i above` says
pub record Valid (n : ℕ) (rules : List Rule) (Meets : ℕ → (ℕ → Bool) → Type 0) (active : ℕ → Bool) (order : List ℕ) : Type 0 where
  pub is_order : IsOrder n order
  pub keeps : (k : ℕ) → k < length rules → T (active k) → Keeps order (rule_at rules k)
  pub meets : (i : ℕ) → i < n → Meets i (hp order i)

-- sets of rules, by their places
abbrev pub every_rule : ℕ → Bool
every_rule k = true

abbrev pub no_rule : ℕ → Bool
no_rule k = false

-- ---- by the response-time equation

-- task i, with the tasks of `above` above it: its response window w exists, and jitter + w is at most its deadline
abbrev pub MeetsDeadline : List Task → ℕ → (ℕ → Bool) → Type 0
MeetsDeadline tasks i above = (w : ℕ) × IsWindow (demand tasks i above) w × ((task_at tasks i).jitter + w ≤ (task_at tasks i).deadline)

-- an order of these tasks that keeps the active rules and meets every deadline
abbrev pub ValidOrder : Lists → (ℕ → Bool) → List ℕ → Type 0
ValidOrder l active order = Valid (length l.tasks) l.rules (MeetsDeadline l.tasks) active order

-- there is one
abbrev pub SomeOrder : Lists → (ℕ → Bool) → Type 0
SomeOrder l active = (order : List ℕ) × ValidOrder l active order

-- ---- sets of rules that can't be had together

-- a core: no order keeps all of it and meets every deadline, and without any one of its rules some order does
pub record UnschedulabilityCore (l : Lists) (A : ℕ → Bool) : Type 0 where
  pub clash : SomeOrder l A → ⊥
  pub needed : (k : ℕ) → k < length l.rules → T (A k) → SomeOrder l (without A k)

-- dropping these rules lets a valid order through
abbrev pub Works : Lists → (ℕ → Bool) → Type 0
Works l dropped = SomeOrder l (others dropped)
