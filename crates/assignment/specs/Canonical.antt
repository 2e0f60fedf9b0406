-- Document 02, (a): one order for one sheet. The order whose levels are filled from the lowest upward, each by the task of the
-- greatest index that may take it, and how a reader finds it who writes out orders. Assumes nothing.
use Rattle.std.specs.Prelude.{◌≡◌, Bool, List, ◌⊎◌, ℕ, suc, ◌≤◌, ◌<◌, T, leb, length, get_or, drop}
use Rattle.sets.specs.Bounded.{without}
use Rattle.sets.specs.Rank.{rank}
use Rattle.taskset.specs.declared.Rule.{Rule}
use Rattle.taskset.specs.Model.{Lists, rule_at}
use Rattle.assignment.specs.Orders.{IsOrder, MeetsDeadline, ValidOrder}

-- ---- by the words

-- the tasks still without a level when level k is filled: those that stand there or before it
abbrev pub left_at : List ℕ → ℕ → ℕ → Bool
left_at order k j = leb (rank order j) k

-- task i may take the level, and meets its deadline there, with the tasks of `left` still without one
pub record MayTake (rules : List Rule) (Meets : ℕ → (ℕ → Bool) → Type 0) (active left : ℕ → Bool) (i : ℕ) : Type 0 where
  pub is_left : T (left i)
  -- every task that an active rule puts below it has a level
  pub below : (k : ℕ) → k < length rules → T (active k) → (rule_at rules k).higher.0 ≡ i → T (left (rule_at rules k).lower.0) → ⊥
  -- every other task still without a level is above it
  pub meets : Meets i (without left i)

-- each task of an order may take its level
abbrev pub EachMayTake : List Rule → (ℕ → (ℕ → Bool) → Type 0) → (ℕ → Bool) → List ℕ → Type 0
EachMayTake rules Meets active order = (k : ℕ) → k < length order → MayTake rules Meets active (left_at order k) (get_or order k 0)

-- levels filled from the lowest upward: at each stands the task of the greatest index (place) that may take it
pub record Canonical (n : ℕ) (rules : List Rule) (Meets : ℕ → (ℕ → Bool) → Type 0) (active : ℕ → Bool) (order : List ℕ) : Type 0 where
  pub is_order : IsOrder n order
  pub each : EachMayTake rules Meets active order
  pub greatest : (k : ℕ) → k < length order → (i : ℕ) → MayTake rules Meets active (left_at order k) i → i ≤ get_or order k 0

-- by the response-time equation
abbrev pub CanonicalOrder : Lists → (ℕ → Bool) → List ℕ → Type 0
CanonicalOrder l active order = Canonical (length l.tasks) l.rules (MeetsDeadline l.tasks) active order

-- ---- by writing out orders

-- read from the lowest level up: at the first level where the two differ, the one has the greater index
pub record Greater (order other : List ℕ) : Type 0 where
  pub level : ℕ
  pub inside : (level < length order) × (level < length other)
  pub same : drop (suc level) order ≡ drop (suc level) other
  pub there : get_or other level 0 < get_or order level 0

-- of all valid orders the greatest so
pub record GreatestOrder (l : Lists) (active : ℕ → Bool) (order : List ℕ) : Type 0 where
  pub valid : ValidOrder l active order
  pub greatest : (other : List ℕ) → ValidOrder l active other → (other ≡ order) ⊎ Greater order other
