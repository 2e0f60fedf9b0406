-- The sheets of the facts, and how tasks and rules are written there. Assumes nothing.
use Rattle.std.specs.Prelude.{List, [], ◌∷◌, ℕ}
use Rattle.taskset.specs.declared.Task.{Task}
use Rattle.taskset.specs.declared.Rule.{Rule}
use Rattle.taskset.specs.declared.TaskSet.{TaskSet}
use Rattle.taskset.specs.Model.{Lists}
use Rattle.taskset.specs.Adding.{fresh_set}
use Rattle.taskset.specs.Numbers.{task_of, rule_of}

-- a task, with a section on resource 0 alone, and a rule as their lines have them
abbrev pub task : ℕ → ℕ → ℕ → ℕ → ℕ → Task
task c t d j s = task_of (c ∷ t ∷ d ∷ j ∷ s ∷ 0 ∷ 0 ∷ 0 ∷ 0 ∷ 0 ∷ 0 ∷ 0 ∷ [])

abbrev pub above : ℕ → ℕ → Rule
above u l = rule_of (u ∷ l ∷ 1 ∷ [])

abbrev pub sheet : List Task → List Rule → Lists
sheet tasks rules = record { tasks = tasks; rules = rules }

-- sheet A, with the jitter of task 0 and the deadline of task 2 left open, and sheet B
abbrev pub sheet_a : ℕ → ℕ → List Task
sheet_a j d = task 1 4 4 j 0 ∷ task 2 6 6 0 0 ∷ task 3 12 d 0 0 ∷ []

abbrev pub sheet_b : List Task
sheet_b = task 2 10 4 0 0 ∷ task 2 10 10 0 0 ∷ task 2 10 10 0 0 ∷ []

-- two tasks that share a resource; the second one holds it as long as it runs
abbrev pub sharing : ℕ → List Task
sharing s = task 1 4 4 0 1 ∷ task s 12 12 0 s ∷ []

-- and with a task between them that does not use it
abbrev pub between : List Task
between = task 1 4 4 0 1 ∷ task 1 6 6 0 0 ∷ task 3 12 12 0 3 ∷ []

-- K4 and K6 whole
abbrev pub sheet_k4 : Lists
sheet_k4 = sheet (sheet_a 0 9) []

abbrev pub sheet_k6 : Lists
sheet_k6 = sheet (sheet_a 0 12) (above 1 0 ∷ above 2 0 ∷ above 2 1 ∷ [])

-- ---- a set that no calls make: it counts a task more than there is room for
abbrev pub unmade : TaskSet
unmade = record { tasks = fresh_set.tasks; ntasks = 65; rules = fresh_set.rules; nrules = 0 }
