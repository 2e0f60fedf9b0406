-- Document 01, "Response": the response-time equation of Joseph and Pandya with release jitter, and the blocking of document 02, (c).
-- First what the words say, as relations; then the same as functions that contracts cite. `Agreement` proves that they agree.
-- Assumes nothing.
use Rattle.std.specs.Prelude.{Option, Some, None}
use Rattle.std.specs.Prelude.{◌≡◌, Bool, List, ℕ, zero, suc, ◌+◌, ◌-◌, ◌*◌, ◌/◌, ◌≤◌, ◌<◌, leb, length}
use Rattle.sets.specs.Choice.{pick}
use Rattle.sets.specs.Sum.{sum}
use Rattle.taskset.specs.declared.Task.{Task}
use Rattle.taskset.specs.Model.{task_at}
use Rattle.response.specs.Blocking.{blocking_of}

-- ⌈x / t⌉
abbrev pub ceil : ℕ → ℕ → ℕ
ceil x t = (x + (t - 1)) / t

-- how many releases of a task fall into a window w at most: ⌈(w + J) / T⌉
abbrev pub releases : Task → ℕ → ℕ
releases t w = ceil (w + t.jitter) t.period

-- ⌈(w + J) / T⌉ × C
unfoldable pub interference : Task → ℕ → ℕ
interference t w = releases t w * t.execution

-- demand(w) of task i with the tasks of `above`, others than i, above it: its blocking, its C and what each of those brings
unfoldable pub demand : List Task → ℕ → (ℕ → Bool) → ℕ → ℕ
demand tasks i above w =
    blocking_of tasks i above + (task_at tasks i).execution + sum (length tasks) above (λ j. interference (task_at tasks j) w)

-- ---- what the words say of a demand d

-- the response window: the least w ≥ 1 with d(w) ≤ w
pub record IsWindow (d : ℕ → ℕ) (w : ℕ) : Type 0 where
  pub low : 1 ≤ w
  pub met : d w ≤ w
  pub least : (v : ℕ) → 1 ≤ v → d v ≤ v → w ≤ v

-- an answer to the search for a window up to room, and for a response up to limit
abbrev pub SaysWindow : (ℕ → ℕ) → ℕ → Option ℕ → Type 0
SaysWindow d room (Some w) = IsWindow d w × (w ≤ room)
SaysWindow d room None = (w : ℕ) → 1 ≤ w → d w ≤ w → room < w

abbrev pub Says : (ℕ → ℕ) → ℕ → ℕ → Option ℕ → Type 0
Says d jitter limit (Some r) = (w : ℕ) × IsWindow d w × (r ≡ jitter + w) × (r ≤ limit)
Says d jitter limit None = (w : ℕ) → 1 ≤ w → d w ≤ w → limit < jitter + w

-- the answer for task i, with the tasks of `above` above it
abbrev pub SaysResponse : List Task → ℕ → (ℕ → Bool) → ℕ → Option ℕ → Type 0
SaysResponse tasks i above limit = Says (demand tasks i above) (task_at tasks i).jitter limit

-- ---- the same as functions

-- the first window among the fuel numbers from w on
unfoldable pub window_from : (ℕ → ℕ) → ℕ → ℕ → Option ℕ
window_from d zero w = None
window_from d (suc fuel) w = let later = window_from d fuel (suc w) in pick (leb (d w) w) (Some w) later

unfoldable pub window_of : (ℕ → ℕ) → ℕ → Option ℕ
window_of d room = window_from d room 1

-- the response that a window gives
abbrev pub respond : ℕ → Option ℕ → Option ℕ
respond jitter (Some w) = Some (jitter + w)
respond jitter None = None

unfoldable pub response_of : (ℕ → ℕ) → ℕ → ℕ → Option ℕ
response_of d jitter limit = respond jitter (window_of d (limit - jitter))

abbrev pub response_time : List Task → ℕ → (ℕ → Bool) → ℕ → Option ℕ
response_time tasks i above limit = response_of (demand tasks i above) (task_at tasks i).jitter limit
