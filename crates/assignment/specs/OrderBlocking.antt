-- Document 02, (c), of an order: what blocks each task of it. Assumes nothing.
use Rattle.std.specs.Prelude.{◌≡◌, List, ◌⊎◌, ℕ, suc, ◌≤◌, ◌<◌, T, length}
use Rattle.sets.specs.Rank.{rank}
use Rattle.taskset.specs.declared.Task.{Task}
use Rattle.taskset.specs.Refusals.{resources, section_on}
use Rattle.taskset.specs.Model.{task_at}
use Rattle.response.specs.Blocking.{uses}

-- the section of task j on resource k may block task i
pub record MayBlockIn (tasks : List Task) (order : List ℕ) (i j k : ℕ) : Type 0 where
  pub known : k < resources
  -- task j is below task i
  pub inside : j < length tasks
  pub below : rank order i < rank order j
  -- task i itself or some task above it uses the resource
  pub user : ℕ
  pub near : (user ≡ i) ⊎ ((user < length tasks) × (rank order user < rank order i))
  pub used : T (uses (task_at tasks user) k)

-- a blocking for each task
pub record OrderBlocking (tasks : List Task) (order : List ℕ) (blocking : ℕ → ℕ) : Type 0 where
  -- the longest of these sections
  pub longest : (i j k : ℕ) → i < length tasks → MayBlockIn tasks order i j k → section_on (task_at tasks j) k ≤ blocking i
  -- and it is one of them, or 0
  pub found : (i : ℕ) → i < length tasks
      → (blocking i ≡ 0) ⊎ ((j : ℕ) × ((k : ℕ) × MayBlockIn tasks order i j k × (section_on (task_at tasks j) k ≡ blocking i)))
  -- the lowest task, with nothing below it, is not charged
  pub lowest : (i : ℕ) → i < length tasks → suc (rank order i) ≡ length tasks → blocking i ≡ 0
