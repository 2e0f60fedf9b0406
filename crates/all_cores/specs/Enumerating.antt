-- Document 02, (m): what the call answers and writes, for any set and any buffer. A set of rules is a number, in which the rules count
-- 1, 2, 4 and so on by their places. Assumes nothing.
use Rattle.std.specs.Prelude.{Ok, Err, List, ℕ, ◌^◌, ltb, eqb, length}
use Rattle.sets.specs.Choice.{pick}
use Rattle.sets.specs.Collected.{collected, itself}
use Rattle.taskset.specs.declared.TaskSet.{TaskSet}
use Rattle.taskset.specs.declared.refusals.Refusal.TheVariants.{ShortBuffer, NoTasks, ManyRules}
use Rattle.taskset.specs.Model.{Lists}
use Rattle.taskset.specs.Adding.{on_made}
use Rattle.taskset.specs.Outcome.{Outcome}
use Rattle.assignment.specs.Audsley.{Problem, problem}
use Rattle.subsets.specs.Subsets.{short, core_number}

-- a list of at most 12 rules never has more cores
abbrev pub max_cores : ℕ
max_cores = 924

-- of the first n sets those that are cores, rising; and of all
abbrev pub cores_below : Problem → ℕ → List ℕ
cores_below p n = collected (core_number p) itself n

unfoldable pub cores_of : Problem → List ℕ
cores_of p = cores_below p (2 ^ length p.rules)

-- 13; 24, more than 12 rules; 9, a buffer for fewer than 924 cores; else the cores
abbrev pub enumerating_on : Lists → ℕ → Outcome
enumerating_on l room =
    pick (eqb (length l.tasks) 0) (Err NoTasks)
    (pick (ltb short (length l.rules)) (Err ManyRules) (pick (ltb room max_cores) (Err ShortBuffer) (Ok (cores_of (problem l)))))

-- 14 before them
unfoldable pub enumerating : TaskSet → ℕ → Outcome
enumerating s room = on_made s (λ l. enumerating_on l room)
