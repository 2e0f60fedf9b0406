-- Document 02, (c): blocking from shared resources, as the ceiling protocol has it. First what the words say, as a relation; then
-- the same as a function that contracts cite. `BlockingLaws` proves that they agree. Assumes nothing.
use Rattle.std.specs.Prelude.{◌≡◌, Bool, ◌&&◌, ◌||◌, not, List, ◌⊎◌, ℕ, ◌≤◌, ◌<◌, T, ltb, eqb, length}
use Rattle.sets.specs.Bounded.{any}
use Rattle.sets.specs.Maximum.{maximum}
use Rattle.taskset.specs.declared.Task.{Task}
use Rattle.taskset.specs.Refusals.{resources, section_on}
use Rattle.taskset.specs.Model.{task_at}

-- a task uses a resource when its section there is above 0
abbrev pub uses : Task → ℕ → Bool
uses t k = ltb 0 (section_on t k)

-- ---- what the words say

-- a section of this length may block task i, with the tasks of `above` above it
pub record MayBlock (tasks : List Task) (i : ℕ) (above : ℕ → Bool) (section : ℕ) : Type 0 where
  -- a task below it holds it: one that is neither above it nor task i itself
  pub holder : ℕ
  pub inside : holder < length tasks
  pub not_above : T (above holder) → ⊥
  pub not_itself : holder ≡ i → ⊥
  -- on a resource
  pub resource : ℕ
  pub known : resource < resources
  pub held : section_on (task_at tasks holder) resource ≡ section
  -- that task i itself or some task above it uses
  pub user : ℕ
  pub near : (user ≡ i) ⊎ ((user < length tasks) × T (above user))
  pub used : T (uses (task_at tasks user) resource)

-- blocking is the longest of them, 0 if there is none
pub record IsBlocking (tasks : List Task) (i : ℕ) (above : ℕ → Bool) (b : ℕ) : Type 0 where
  pub longest : (section : ℕ) → MayBlock tasks i above section → section ≤ b
  pub found : (b ≡ 0) ⊎ MayBlock tasks i above b

-- ---- the same as a function

-- task j is below task i
abbrev pub is_below : ℕ → (ℕ → Bool) → ℕ → Bool
is_below i above j = not (above j) && not (eqb j i)

-- task i itself or some task above it uses resource k
abbrev pub is_used : List Task → ℕ → (ℕ → Bool) → ℕ → Bool
is_used tasks i above k = uses (task_at tasks i) k || any (length tasks) (λ j. above j && uses (task_at tasks j) k)

unfoldable pub blocking_of : List Task → ℕ → (ℕ → Bool) → ℕ
blocking_of tasks i above =
    maximum (length tasks) (is_below i above) (λ j. maximum resources (is_used tasks i above) (section_on (task_at tasks j)))
