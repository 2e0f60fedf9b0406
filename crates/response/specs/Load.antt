-- What the climb to a response window goes over, and the bounds that it leaps to: definitions that contracts below the search's
-- own cite. Any result that they allow leads to the same response. Assumes nothing.
use Rattle.std.specs.Prelude.{◌≡◌, Bool, List, ℕ, ◌+◌, ◌-◌, ◌*◌, ◌/◌, ◌^◌, ◌≤◌, ◌<◌, leb, ltb, length, get_or}
use Rattle.sets.specs.Choice.{pick}
use Rattle.sets.specs.Bounded.{every}
use Rattle.sets.specs.Sum.{sum}
use Rattle.taskset.specs.declared.Task.{Task}
use Rattle.taskset.specs.Refusals.{max_tasks, max_period}
use Rattle.taskset.specs.Model.{task_at, SoundTasks}
use Rattle.response.specs.declared.climb.Part.{Part}
use Rattle.response.specs.Equation.{ceil, releases, interference, demand}

-- no solution lies below w
abbrev pub Bounds : (ℕ → ℕ) → ℕ → Type 0
Bounds d w = (v : ℕ) → 1 ≤ v → d v ≤ v → w ≤ v

-- ---- a load: a base, and tasks that are kept beside it, as indices

abbrev pub kept_at : List Task → List ℕ → ℕ → Task
kept_at tasks kept k = task_at tasks (get_or kept k 0)

-- blocking and C of a task, and the C of each task above at most; and some of a set's tasks
pub record IsLoad (base : ℕ) (tasks : List Task) (kept : List ℕ) : Type 0 where
  pub sound : SoundTasks tasks
  pub low : 1 ≤ base
  pub high : base ≤ (max_tasks + 2) * max_period
  pub few : length kept ≤ max_tasks
  pub inside : (k : ℕ) → k < length kept → get_or kept k 0 < length tasks

-- its demand
unfoldable pub load_demand : ℕ → List Task → List ℕ → ℕ → ℕ
load_demand base tasks kept w = base + sum (length kept) every (λ k. interference (kept_at tasks kept k) w)

-- a load, and its demand at 1, that a climb up to room may go over in place of the demand of task i
pub record StandsFor (tasks : List Task) (i : ℕ) (above : ℕ → Bool) (room base : ℕ) (kept : List ℕ) (start : ℕ) : Type 0 where
  pub is_load : IsLoad base tasks kept
  pub starts : start ≡ load_demand base tasks kept 1
  pub same : (w : ℕ) → 1 ≤ w → w ≤ room → load_demand base tasks kept w ≡ demand tasks i above w

-- ---- what a task adds to a bound

-- a load of this many parts is the whole processor
abbrev pub scale : ℕ
scale = 2 ^ 32

-- the load of a task, rounded down
abbrev pub rate : Task → ℕ
rate t = t.execution * scale / t.period

-- what it brings at w does not last until `reach`
abbrev pub ends : Task → ℕ → ℕ → Bool
ends t w reach = ltb (releases t w * t.period - t.jitter) reach

unfoldable pub fixed_part : ℕ → ℕ → Task → ℕ
fixed_part w reach t = pick (ends t w reach) (rate t * t.jitter) (releases t w * t.execution * scale)

unfoldable pub rate_part : ℕ → ℕ → Task → ℕ
rate_part w reach t = pick (ends t w reach) (rate t) 0

abbrev pub part_of : Task → ℕ → ℕ → Part
part_of t w reach = record { fixed = fixed_part w reach t; rate = rate_part w reach t }

-- the bound of a fixed part and a rate; a rate of the whole processor leaves no window
unfoldable pub bound_of : ℕ → ℕ → ℕ
bound_of fixed rate = pick (leb scale rate) (max_period + 1) (ceil fixed (scale - rate))
