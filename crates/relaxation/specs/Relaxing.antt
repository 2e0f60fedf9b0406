-- Document 02, (f): what the call answers, for any set and any budget. Assumes nothing.
use Rattle.std.specs.Prelude.{Some, None, Result, Ok, Err, Bool, ◌&&◌, List, ℕ, max, leb, eqb, length}
use Rattle.sets.specs.Choice.{pick}
use Rattle.sets.specs.Bounded.{others}
use Rattle.sets.specs.Marks.{first, marked}
use Rattle.sets.specs.Numbered.{numbered}
use Rattle.taskset.specs.declared.TaskSet.{TaskSet}
use Rattle.taskset.specs.declared.refusals.Refusal.{Refusal}
use Rattle.taskset.specs.declared.refusals.Refusal.TheVariants.{NoTasks, Budget}
use Rattle.taskset.specs.Refusals.{outside}
use Rattle.taskset.specs.Model.{Lists}
use Rattle.taskset.specs.Adding.{on_made}
use Rattle.assignment.specs.Orders.{no_rule}
use Rattle.assignment.specs.Audsley.{Problem, feasible, problem}
use Rattle.subsets.specs.Subsets.{short, subsets}
use Rattle.relaxation.specs.declared.Relaxed.{Relaxed}
use Rattle.relaxation.specs.declared.cores.DisjointCores.{DisjointCores}
use Rattle.relaxation.specs.Weights.{cost_of, marks_of}
use Rattle.relaxation.specs.Restoring.{max_budget}
use Rattle.relaxation.specs.Disjoint.{listed_in}
use Rattle.relaxation.specs.Exploring.{explored}
use Rattle.relaxation.specs.Table.{answers, cheapest, cores_listed}

-- the rules that are not kept
abbrev pub dropped_of : ℕ → (ℕ → Bool) → List Bool
dropped_of m kept = marks_of m (others kept)

-- the set that is given up where these are kept, with a floor, the cores, and how many sets were solved
abbrev pub relaxed_by : Problem → (ℕ → Bool) → ℕ → DisjointCores → ℕ → Relaxed
relaxed_by p kept floor s count =
    record {
      relaxation = Some (record {
        dropped = dropped_of (length p.rules) kept;
        weight = cost_of p.rules kept;
        floor = floor;
        cores = s.numbers;
        ncores = s.ncores;
      });
      count = count;
    }

-- no order exists without rules, which is found by solving one set
abbrev pub none_relaxed : Relaxed
none_relaxed = record { relaxation = None; count = 1 }

-- by solving every set once, that of no rules among them: the floor is the weight
unfoldable pub tabled_relaxation : Problem → Relaxed
tabled_relaxation p =
    let found = marked (answers p) in
    let n = length (answers p) in
    let kept = numbered (cheapest p found n) in
    relaxed_by p kept (cost_of p.rules kept) (cores_listed p found n) n

-- by exploring: of what was found of the floor and of the cores, what tells more
unfoldable pub explored_relaxation : Problem → ℕ → Relaxed
explored_relaxation p budget =
    let e = explored p budget in
    let s = listed_in p.rules e.cores.sets (first (length p.rules)) e.cores.n in
    relaxed_by p (marked e.kept) (max e.floor s.least) s e.count

-- the set of no rules first
unfoldable pub relaxed_within : Problem → ℕ → Relaxed
relaxed_within p budget =
    pick (feasible p no_rule)
    (pick (leb (length p.rules) short && leb subsets budget) (tabled_relaxation p) (explored_relaxation p budget))
    none_relaxed

-- 13, 16, then that
abbrev pub relaxing_on : Lists → ℕ → Result Relaxed Refusal
relaxing_on l budget =
    pick (eqb (length l.tasks) 0) (Err NoTasks) (pick (outside 1 max_budget budget) (Err Budget) (Ok (relaxed_within (problem l) budget)))

-- 14 before them
unfoldable pub relaxing : TaskSet → ℕ → Result Relaxed Refusal
relaxing s budget = on_made s (λ l. relaxing_on l budget)
