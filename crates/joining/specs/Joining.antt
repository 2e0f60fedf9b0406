-- Document 02, (g): joining two tasks, as a function on the two lists, and on any set with any two places. Assumes nothing.
use Rattle.std.specs.Prelude.{Bool, not, ◌&&◌, ◌||◌, List, [], ◌∷◌, ◌++◌, ℕ, ◌+◌, ◌-◌, max, min, ltb, eqb, length, set, Result}
use Rattle.std.specs.List.{list_any, remove}
use Rattle.sets.specs.Choice.{pick}
use Rattle.sets.specs.Marks.{table}
use Rattle.sets.specs.Collected.{collected}
use Rattle.taskset.specs.declared.Task.{Task}
use Rattle.taskset.specs.declared.Rule.{Rule}
use Rattle.taskset.specs.declared.TaskSet.{TaskSet}
use Rattle.taskset.specs.declared.Changed.{Changed}
use Rattle.taskset.specs.declared.refusals.Refusal.{Refusal}
use Rattle.taskset.specs.declared.refusals.Refusal.TheVariants.{Execution, DifferentPeriods, BothWays}
use Rattle.taskset.specs.Refusals.{resources, section_on, Condition, entry_by, first_of, place_refusals}
use Rattle.taskset.specs.Model.{Lists, task_at, rule_at}
use Rattle.taskset.specs.Adding.{changing}

-- ---- the join of two tasks, by their places: the smaller, which the join takes, and the larger

-- the sum of the execution times, the smaller deadline, the larger jitter and, per resource, the longer section
unfoldable pub joint : Task → Task → Task
joint one other =
    record {
      period = one.period;
      execution = one.execution + other.execution;
      deadline = min one.deadline other.deadline;
      jitter = max one.jitter other.jitter;
      sections = table resources (λ k. max (section_on one k) (section_on other k));
    }

-- where a task stands afterwards: the two where the join does, and later ones a place earlier
unfoldable pub new_place : ℕ → ℕ → ℕ → ℕ
new_place low high j = pick (eqb j high) low (pick (ltb high j) (j - 1) j)

-- a rule puts the one task above the other; stands between the two; and has its tasks' new places
unfoldable pub puts : ℕ → ℕ → Rule → Bool
puts higher lower r = eqb r.higher.0 higher && eqb r.lower.0 lower

abbrev pub is_between : ℕ → ℕ → Rule → Bool
is_between low high r = puts low high r || puts high low r

abbrev pub renamed : ℕ → ℕ → Rule → Rule
renamed low high r =
    record {
      higher = record { 0 = new_place low high r.higher.0 };
      lower = record { 0 = new_place low high r.lower.0 };
      weight = r.weight;
    }

-- later places close up, of tasks and of rules; rules between the two vanish
abbrev pub joined_tasks : ℕ → ℕ → List Task → List Task
joined_tasks low high tasks = remove (set tasks low (joint (task_at tasks low) (task_at tasks high))) high

abbrev pub stays : ℕ → ℕ → List Rule → ℕ → Bool
stays low high rules k = not (is_between low high (rule_at rules k))

abbrev pub joined_rules : ℕ → ℕ → List Rule → List Rule
joined_rules low high rules =
    collected (stays low high rules) (λ k. renamed low high (rule_at rules k)) (length rules)

unfoldable pub joined : ℕ → ℕ → Lists → Lists
joined low high l = record { tasks = joined_tasks low high l.tasks; rules = joined_rules low high l.rules }

-- ---- the call

-- equal places are 6, a missing one 11, different periods 17, rules between the two both ways 18, a sum past the period 2
unfoldable pub join_refusals : ℕ → ℕ → Lists → List Condition
join_refusals p q l =
    let one = task_at l.tasks p in
    let other = task_at l.tasks q in
    place_refusals (length l.tasks) p q
    ++ entry_by DifferentPeriods (not (eqb one.period other.period))
    ∷ entry_by BothWays (list_any (puts p q) l.rules && list_any (puts q p) l.rules)
    ∷ entry_by Execution (ltb one.period (one.execution + other.execution))
    ∷ []

abbrev pub join_refusal : ℕ → ℕ → Lists → Result (Unit {0}) Refusal
join_refusal p q l = first_of (join_refusals p q l)

-- 14 first
unfoldable pub joining : TaskSet → ℕ → ℕ → Changed
joining s p q = changing s (join_refusal p q) (joined (min p q) (max p q))
