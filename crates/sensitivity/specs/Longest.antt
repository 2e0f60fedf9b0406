-- Document 02, (e): the greatest execution time that a task may have, for any set and any place. Assumes nothing.
use Rattle.std.specs.Prelude.{Result, Ok, Err, Option, Bool, ◌&&◌, ℕ, ◌+◌, max, leb, length, set}
use Rattle.sets.specs.Choice.{pick}
use Rattle.sets.specs.Bounded.{greatest}
use Rattle.sets.specs.Marks.{first}
use Rattle.taskset.specs.declared.Task.{Task}
use Rattle.taskset.specs.declared.TaskSet.{TaskSet}
use Rattle.taskset.specs.declared.refusals.Refusal.{Refusal}
use Rattle.taskset.specs.declared.refusals.Refusal.TheVariants.{NoSuchTask}
use Rattle.taskset.specs.Refusals.{longest_section}
use Rattle.taskset.specs.Model.{Lists, task_at}
use Rattle.taskset.specs.Adding.{on_made}
use Rattle.assignment.specs.Audsley.{feasible, problem}

-- a row with this execution time
abbrev pub running : Task → ℕ → Task
running t c = record { period = t.period; execution = c; deadline = t.deadline; jitter = t.jitter; sections = t.sections }

-- the lists with this execution time in row i
abbrev pub with_execution : Lists → ℕ → ℕ → Lists
with_execution l i c = record { tasks = set l.tasks i (running (task_at l.tasks i) c); rules = l.rules }

-- the least execution time that is asked about, document 02's floor: the longest section, at least 1; the greatest is the period
abbrev pub least_execution : Task → ℕ
least_execution t = max (longest_section t) 1

abbrev pub least_at : Lists → ℕ → ℕ
least_at l i = least_execution (task_at l.tasks i)

abbrev pub period_at : Lists → ℕ → ℕ
period_at l i = (task_at l.tasks i).period

-- an execution time is accepted where, with it, every task gets a level with every rule active; for lists that adding takes that is
-- a valid order (`accepts_order`)
abbrev pub accepts : Lists → ℕ → ℕ → Bool
accepts l i c = feasible (problem (with_execution l i c)) (first (length l.rules))

-- the numbers from low on that pass
abbrev pub passing_from : ℕ → (ℕ → Bool) → ℕ → Bool
passing_from low passes c = leb low c && passes c

-- the greatest accepted one from the floor to the period, or none
unfoldable pub longest : Lists → ℕ → Option ℕ
longest l i = greatest (period_at l i + 1) (passing_from (least_at l i) (accepts l i))

-- 11, then that
abbrev pub longest_on : Lists → ℕ → Result (Option ℕ) Refusal
longest_on l i = pick (leb (length l.tasks) i) (Err NoSuchTask) (Ok (longest l i))

-- 14 before them
unfoldable pub longest_of : TaskSet → ℕ → Result (Option ℕ) Refusal
longest_of s i = on_made s (λ l. longest_on l i)
