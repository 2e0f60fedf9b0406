-- Document 01, solving: the verdict on a list of tasks and a list of rules, and how it is handed over; refusals 14 and 13.
-- Assumes nothing.
use Rattle.std.specs.Prelude.{Err, Ok, Bool, false, List, map, ℕ, eqb, length, replicate}
use Rattle.sets.specs.Choice.{pick}
use Rattle.sets.specs.Pad.{pad}
use Rattle.sets.specs.Marks.{first, table}
use Rattle.taskset.specs.declared.TaskSet.{TaskSet}
use Rattle.taskset.specs.declared.refusals.Refusal.{Refusal}
use Rattle.taskset.specs.declared.refusals.Refusal.TheVariants.{NoTasks, NotMade}
use Rattle.taskset.specs.Refusals.{max_tasks, max_rules}
use Rattle.taskset.specs.Model.{Lists}
use Rattle.taskset.specs.Adding.{is_made, lists}
use Rattle.assignment.specs.Orders.{hp}
use Rattle.assignment.specs.Audsley.{assign, feasible, response_at, problem}
use Rattle.assignment.specs.Search.{index, time}
use Rattle.verdict.specs.declared.Verdict.{Verdict}
use Rattle.verdict.specs.declared.Solved.{Solved}
use Rattle.verdict.specs.declared.Finding.TheVariants.{Order, Core}
use Rattle.verdict.specs.Core.{core_of}

-- ---- how it is handed over: unused ends are 0; on a core both lists are all 0, on an order the marks are all no

abbrev pub ordered : List ℕ → List ℕ → Verdict
ordered order times =
    record {
      answer = Ok Order;
      order = pad max_tasks (index 0) (map index order);
      responses = pad max_tasks 0 times;
      core = replicate max_rules false;
    }

abbrev pub cored : List Bool → Verdict
cored marks =
    record {
      answer = Ok Core;
      order = replicate max_tasks (index 0);
      responses = replicate max_tasks 0;
      core = pad max_rules false marks;
    }

abbrev pub refused : Refusal → Verdict
refused k =
    record {
      answer = Err k;
      order = replicate max_tasks (index 0);
      responses = replicate max_tasks 0;
      core = replicate max_rules false;
    }

-- ---- the verdict

-- each task's response with the tasks before it above it
abbrev pub responses_in : Lists → List ℕ → List ℕ
responses_in l order = map (λ i. time (response_at l.tasks i (hp order i))) order

-- by whether an order was found
abbrev pub verdict_by : Lists → Bool → List ℕ → (ℕ → Bool) → Verdict
verdict_by l found order core = pick found (ordered order (responses_in l order)) (cored (table (length l.rules) core))

-- with every rule active: the order that the assignment finds, or the core
unfoldable pub verdict_on : Lists → Verdict
verdict_on l =
    let m = length l.rules in
    verdict_by l (feasible (problem l) (first m)) (assign (problem l) (first m)) (core_of (feasible (problem l)) m)

-- 13 first
unfoldable pub deciding : Lists → Verdict
deciding l = pick (eqb (length l.tasks) 0) (refused NoTasks) (verdict_on l)

-- 14 before it; the set is handed back
unfoldable pub solving : TaskSet → Solved
solving s = record { verdict = pick (is_made s) (deciding (lists s)) (refused NotMade); set = s }
