-- Document 02, (b): the response search gives any response up to the period, and says if it meets the deadline. First what its
-- answers mean, over document 01's relation `Says`; then the same as a function that contracts cite. `TimingLaws` proves that they
-- agree. Assumes nothing.
use Rattle.std.specs.Prelude.{Option, Some, None}
use Rattle.std.specs.Prelude.{Bool, List, ℕ, ◌≤◌, ◌<◌, leb}
use Rattle.sets.specs.Choice.{pick}
use Rattle.taskset.specs.declared.Task.{Task}
use Rattle.taskset.specs.Model.{task_at}
use Rattle.response.specs.declared.Timing.{Timing}
use Rattle.response.specs.declared.Timing.TheVariants.{Met, Missed, PastPeriod}
use Rattle.response.specs.Equation.{demand, Says, response_of}

-- ---- what each answer means

-- a response within the period that meets the deadline, or misses it; or none within the period
abbrev pub SaysTimingBy : (ℕ → ℕ) → ℕ → ℕ → ℕ → Timing → Type 0
SaysTimingBy d jitter deadline period (Met r) = Says d jitter period (Some r) × (r ≤ deadline)
SaysTimingBy d jitter deadline period (Missed r) = Says d jitter period (Some r) × (deadline < r)
SaysTimingBy d jitter deadline period PastPeriod = Says d jitter period None

-- of task i, with the tasks of `above` above it
abbrev pub SaysTiming : List Task → ℕ → (ℕ → Bool) → Timing → Type 0
SaysTiming tasks i above =
    let own = task_at tasks i in SaysTimingBy (demand tasks i above) own.jitter own.deadline own.period

-- ---- the same as functions

-- whether a response meets the deadline
abbrev pub judged : ℕ → Option ℕ → Timing
judged deadline (Some r) = pick (leb r deadline) (Met r) (Missed r)
judged deadline None = PastPeriod

unfoldable pub timing_by : (ℕ → ℕ) → ℕ → ℕ → ℕ → Timing
timing_by d jitter deadline period = judged deadline (response_of d jitter period)

abbrev pub timing_of : List Task → ℕ → (ℕ → Bool) → Timing
timing_of tasks i above = let own = task_at tasks i in timing_by (demand tasks i above) own.jitter own.deadline own.period

-- ---- the values of each answer

-- the response as it is reported: 0, which is no response, where none lies within the period
abbrev pub reported : Timing → ℕ
reported (Met r) = r
reported (Missed r) = r
reported PastPeriod = 0

-- what a search that stops at the deadline answers
abbrev pub up_to_deadline : Timing → Option ℕ
up_to_deadline (Met r) = Some r
up_to_deadline (Missed r) = None
up_to_deadline PastPeriod = None
