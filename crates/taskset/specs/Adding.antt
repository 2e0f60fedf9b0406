-- Document 01, "Calls on a sheet" and refusal 14: the task set that holds two lists, adding to it, and lists of adding calls.
-- Assumes nothing.
use Rattle.std.specs.Prelude.{◌≡◌, Bool, ◌&&◌, List, [], ◌∷◌, ℕ, leb, ltb, eqb, nat_eq, length, get_or, take, replicate, Result, Err, is_ok}
use Rattle.std.specs.Cmp.Lexicographic.{pointwise}
use Rattle.sets.specs.Choice.{pick}
use Rattle.sets.specs.Bounded.{all}
use Rattle.sets.specs.Pad.{pad}
use Rattle.taskset.specs.declared.refusals.Refusal.{Refusal}
use Rattle.taskset.specs.declared.refusals.Refusal.TheVariants.{NotMade}
use Rattle.taskset.specs.declared.Task.{Task}
use Rattle.taskset.specs.declared.Rule.{Rule}
use Rattle.taskset.specs.declared.TaskSet.{TaskSet}
use Rattle.taskset.specs.declared.Call.{Call}
use Rattle.taskset.specs.declared.Call.TheVariants.{AddTask, AddRule}
use Rattle.taskset.specs.declared.Changed.{Changed}
use Rattle.taskset.specs.Refusals.{max_tasks, max_rules, resources, entry_fits}
use Rattle.taskset.specs.Model.{Lists, no_lists, refusal_of, extended, blank_task, blank_rule}

-- the set that holds these lists: unused entries are all zeros
abbrev pub holding : Lists → TaskSet
holding l =
    record {
      tasks = pad max_tasks blank_task l.tasks;
      ntasks = length l.tasks;
      rules = pad max_rules blank_rule l.rules;
      nrules = length l.rules;
    }

-- the lists in a set: the used entries
abbrev pub lists : TaskSet → Lists
lists s = record { tasks = take s.ntasks s.tasks; rules = take s.nrules s.rules }

abbrev pub fresh_set : TaskSet
fresh_set = holding no_lists

-- ---- refusal 14

-- all zeros, and a section for each resource
abbrev pub is_blank_task : Task → Bool
is_blank_task t =
    eqb t.period 0 && eqb t.execution 0 && eqb t.deadline 0 && eqb t.jitter 0 && pointwise nat_eq t.sections (replicate resources 0)

abbrev pub is_blank_rule : Rule → Bool
is_blank_rule r = eqb r.higher.0 0 && eqb r.lower.0 0 && eqb r.weight 0

-- a used entry is one that adding takes, an unused one is all zeros; in a set of n tasks and m rules
unfoldable pub task_fits : ℕ → ℕ → Bool → Task → Bool
task_fits n m used t = pick used (entry_fits n m (AddTask t)) (is_blank_task t)

unfoldable pub rule_fits : ℕ → ℕ → Bool → Rule → Bool
rule_fits n m used r = pick used (entry_fits n m (AddRule r)) (is_blank_rule r)

-- entry i of an array of which n entries are used
abbrev pub entry : {A : Type 0} → (Bool → A → Bool) → A → ℕ → List A → ℕ → Bool
entry fits blank n xs i = fits (ltb i n) (get_or xs i blank)

-- counts within their limits, and every entry as it should be; anything else is refusal 14
unfoldable pub is_made : TaskSet → Bool
is_made s =
    leb s.ntasks max_tasks
    && leb s.nrules max_rules
    && all max_tasks (entry (task_fits s.ntasks s.nrules) blank_task s.ntasks s.tasks)
    && all max_rules (entry (rule_fits s.ntasks s.nrules) blank_rule s.nrules s.rules)

-- 14 comes first: the lists are looked at only of a set that passes
abbrev pub on_made : {A : Type 0} → TaskSet → (Lists → Result A Refusal) → Result A Refusal
on_made s f = pick (is_made s) (f (lists s)) (Err NotMade)

-- ---- a call that changes a set, and lists of adding calls

-- refused: why, and the set as it was; taken: another set
abbrev pub answering : TaskSet → Result (Unit {0}) Refusal → TaskSet → Changed
answering s r new = record { answer = r; set = pick (is_ok r) new s }

-- a call that is refused, or takes the set's lists to others: 14, then its own refusals; taken: the set that holds the new lists
abbrev pub changing : TaskSet → (Lists → Result (Unit {0}) Refusal) → (Lists → Lists) → Changed
changing s refusal new = answering s (on_made s refusal) (holding (new (lists s)))

-- adding: the longer lists
unfoldable pub add : TaskSet → Call → Changed
add s c = changing s (λ l. refusal_of l c) (λ l. extended l c)

-- each call is handed the set that the one before handed back, after a refusal too
unfoldable pub run : TaskSet → List Call → TaskSet
run s [] = s
run s (c ∷ cs) = run (add s c).set cs

-- some list of adding calls from a fresh set makes this very set
unfoldable pub Made : TaskSet → Type 0
Made s = (calls : List Call) × (run fresh_set calls ≡ s)
