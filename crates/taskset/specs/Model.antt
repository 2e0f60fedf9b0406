-- The reference model, which is document 01's sceptic: his list of tasks and his list of rules, from the calls' arguments alone.
-- Assumes nothing.
use Rattle.std.specs.Prelude.{◌≡◌, List, [], ◌∷◌, ◌++◌, ℕ, ◌≤◌, ◌<◌, length, get_or, replicate, Result, is_ok}
use Rattle.sets.specs.Choice.{pick}
use Rattle.taskset.specs.declared.refusals.Refusal.{Refusal}
use Rattle.taskset.specs.declared.Task.{Task}
use Rattle.taskset.specs.declared.Rule.{Rule}
use Rattle.taskset.specs.declared.Call.{Call}
use Rattle.taskset.specs.declared.Call.TheVariants.{AddTask, AddRule}
use Rattle.taskset.specs.Refusals.{max_tasks, max_rules, resources, InRanges, Between, Weighed, refusal_by}

pub record Lists : Type 0 where
  pub tasks : List Task
  pub rules : List Rule

abbrev pub no_lists : Lists
no_lists = record { tasks = []; rules = [] }

-- whether a call is refused, and why
abbrev pub refusal_of : Lists → Call → Result (Unit {0}) Refusal
refusal_of l c = refusal_by (length l.tasks) (length l.rules) c

-- the new entry goes to the end of its list
abbrev pub extended : Lists → Call → Lists
extended l (AddTask t) = record { tasks = l.tasks ++ t ∷ []; rules = l.rules }
extended l (AddRule r) = record { tasks = l.tasks; rules = l.rules ++ r ∷ [] }

-- after a refused call the lists stay as they were
unfoldable pub hear : Lists → Call → Lists
hear l c = pick (is_ok (refusal_of l c)) (extended l c) l

unfoldable pub heard : Lists → List Call → Lists
heard l [] = l
heard l (c ∷ cs) = heard (hear l c) cs

-- ---- lists that adding has taken

-- an entry of a list, all zeros past its end
abbrev pub blank_task : Task
blank_task = record { period = 0; execution = 0; deadline = 0; jitter = 0; sections = replicate resources 0 }

abbrev pub blank_rule : Rule
blank_rule = record { higher = record { 0 = 0 }; lower = record { 0 = 0 }; weight = 0 }

-- past its end a list of tasks has one without even a section
abbrev pub no_task : Task
no_task = record { period = 0; execution = 0; deadline = 0; jitter = 0; sections = [] }

abbrev pub task_at : List Task → ℕ → Task
task_at tasks i = get_or tasks i no_task

abbrev pub rule_at : List Rule → ℕ → Rule
rule_at rules k = get_or rules k blank_rule

-- each row has a section for each resource
abbrev pub Sectioned : List Task → Type 0
Sectioned tasks = (i : ℕ) → i < length tasks → length (task_at tasks i).sections ≡ resources

-- few enough tasks, each within its ranges
pub record SoundTasks (tasks : List Task) : Type 0 where
  pub few : length tasks ≤ max_tasks
  pub each : (i : ℕ) → i < length tasks → InRanges (task_at tasks i)

-- and few enough rules, each between two of the tasks, with their weights
pub record Sound (l : Lists) : Type 0 where
  pub tasks : SoundTasks l.tasks
  pub few_rules : length l.rules ≤ max_rules
  pub indices : (k : ℕ) → k < length l.rules → Between (length l.tasks) (rule_at l.rules k)
  pub weights : (k : ℕ) → k < length l.rules → Weighed (rule_at l.rules k)
