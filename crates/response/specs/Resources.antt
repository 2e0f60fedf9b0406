-- What a search keeps up from level to level to know the blocking there: how many of the tasks left use each resource, and the
-- longest section on it of those that have a level. `ResourcesLaws` proves that it gives the blocking. Assumes nothing.
use Rattle.std.specs.Prelude.{◌≡◌, Bool, ◌&&◌, not, List, ltb, length, get_or}
use Prim.Native.Nat.{ℕ, ◌≤◌, ◌<◌}
use Rattle.std.proofs.Math.Dec.{T}
use Rattle.sets.specs.Bounded.{without, count}
use Rattle.sets.specs.Maximum.{maximum}
use Rattle.sets.specs.Marks.{table}
use Rattle.taskset.specs.declared.Task.{Task}
use Rattle.taskset.specs.Refusals.{resources, section_on}
use Rattle.taskset.specs.Model.{task_at}
use Rattle.response.specs.declared.blocking.Resources.{Resources}
use Rattle.response.specs.declared.blocking.Usage.{Usage}
use Rattle.response.specs.Blocking.{uses, blocking_of}

-- b is the blocking of each of these tasks, with the others that are left above it
abbrev pub BlocksEach : List Task → (ℕ → Bool) → (ℕ → Bool) → ℕ → Type 0
BlocksEach tasks these left b = (i : ℕ) → i < length tasks → T (these i) → b ≡ blocking_of tasks i (without left i)

-- no task uses a resource from this one on
abbrev pub UnusedFrom : List Task → ℕ → Type 0
UnusedFrom tasks used = (j k : ℕ) → j < length tasks → used ≤ k → k < resources → section_on (task_at tasks j) k ≡ 0

-- the tasks left that use resource k, and how many they are
abbrev pub users_left : List Task → (ℕ → Bool) → ℕ → ℕ → Bool
users_left tasks left k j = left j && uses (task_at tasks j) k

unfoldable pub users_on : List Task → (ℕ → Bool) → ℕ → ℕ
users_on tasks left k = count (length tasks) (users_left tasks left k)

-- the tasks that have a level, and the longest of their sections on it
abbrev pub levelled : (ℕ → Bool) → ℕ → Bool
levelled left j = not (left j)

abbrev pub lengths : List Task → ℕ → ℕ → ℕ
lengths tasks k j = section_on (task_at tasks j) k

unfoldable pub held_on : List Task → (ℕ → Bool) → ℕ → ℕ
held_on tasks left k = maximum (length tasks) (levelled left) (lengths tasks k)

-- both
abbrev pub usage_of : List Task → (ℕ → Bool) → ℕ → Usage
usage_of tasks left k = record { users = users_on tasks left k; held = held_on tasks left k }

-- what is kept at a level, where no task uses a resource from `used` on
pub record Tracks (tasks : List Task) (left : ℕ → Bool) (r : Resources) : Type 0 where
  pub few : r.used ≤ resources
  pub rest : UnusedFrom tasks r.used
  pub usage : r.usage ≡ table resources (usage_of tasks left)

-- the blocking that this gives
abbrev pub no_usage : Usage
no_usage = record { users = 0; held = 0 }

unfoldable pub blocking_by : Resources → ℕ
blocking_by r = maximum r.used (λ k. ltb 0 (get_or r.usage k no_usage).users) (λ k. (get_or r.usage k no_usage).held)
