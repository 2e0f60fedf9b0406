-- What a window says of the tasks of a level. Any window that this allows gives the same responses. Assumes nothing.
use Rattle.std.specs.Prelude.{Option, ◌≡◌, Bool, List, ℕ, ◌-◌, ◌≤◌, ◌<◌, T, length}
use Rattle.sets.specs.Bounded.{without}
use Rattle.taskset.specs.declared.Task.{Task}
use Rattle.taskset.specs.Model.{task_at}
use Rattle.response.specs.Equation.{demand}
use Rattle.response.specs.Agreement.{met_by}
use Rattle.assignment.specs.Audsley.{response_at}

-- the room for a window within the task's deadline
abbrev pub room_of : List Task → ℕ → ℕ
room_of tasks i = (task_at tasks i).deadline - (task_at tasks i).jitter

-- none of these tasks has a window in this room, as far as its deadline reaches, with the others that are left above it
abbrev pub Windowless : List Task → (ℕ → Bool) → (ℕ → Bool) → ℕ → Type 0
Windowless tasks these left known =
    (i : ℕ) → i < length tasks → T (these i) → (w : ℕ) → 1 ≤ w → w ≤ known → w ≤ room_of tasks i → demand tasks i (without left i) w ≤ w → ⊥

-- of these tasks below an index, m has the most room, if any has more than is known to hold no window
pub record Roomiest (tasks : List Task) (these : ℕ → Bool) (known end m most : ℕ) : Type 0 where
  pub more : known ≤ most
  pub each : (i : ℕ) → i < end → T (these i) → room_of tasks i ≤ most
  pub one : known < most → (m < end) × T (these m) × (room_of tasks m ≡ most)

-- with the others that are left above it, each of these tasks has the response that the window gives
abbrev pub LevelWindow : List Task → (ℕ → Bool) → (ℕ → Bool) → Option ℕ → Type 0
LevelWindow tasks these left window =
    (i : ℕ) → i < length tasks → T (these i)
    → response_at tasks i (without left i) ≡ met_by (task_at tasks i).jitter (task_at tasks i).deadline window
