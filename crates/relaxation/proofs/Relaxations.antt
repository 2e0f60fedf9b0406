-- Document 01's sheets with weights, as facts about the definition, with one proof. Assumes nothing.
use Rattle.std.specs.Prelude.{Some, None, Result, Ok, Err, Bool, ◌≡◌, refl, true, false, List, [], ◌∷◌, ℕ}
use Rattle.sets.specs.Bounded.{all, greatest, count}
use Rattle.sets.specs.Sum.{sum}
use Rattle.sets.specs.Maximum.{maximum}
use Rattle.sets.specs.Pad.{pad}
use Rattle.sets.specs.Numbered.{numbered}
use Rattle.taskset.specs.declared.Rule.{Rule}
use Rattle.taskset.specs.declared.TaskSet.{TaskSet}
use Rattle.taskset.specs.declared.refusals.Refusal.{Refusal}
use Rattle.taskset.specs.declared.refusals.Refusal.TheVariants.{NoTasks, NotMade, Budget}
use Rattle.taskset.specs.Refusals.{max_rules, section_on, longest_section, row_refusals, place_refusals, weight_refusals, entry_fits}
use Rattle.taskset.specs.Adding.{holding, fresh_set, task_fits, rule_fits, is_made}
use Rattle.taskset.specs.Numbers.{rule_of}
use Rattle.response.specs.Blocking.{blocking_of}
use Rattle.response.specs.Equation.{interference, demand, window_from, window_of, response_of}
use Rattle.assignment.specs.Audsley.{unassigned, ready, may_take, fill, feasible}
use Rattle.subsets.specs.Subsets.{ruled_out}
use Rattle.samples.specs.Sheets.{sheet, task, sheet_b, sheet_k4, sheet_k6, unmade}
use Rattle.verdict.specs.Core.{tried}
use Rattle.relaxation.specs.declared.Relaxed.{Relaxed}
use Rattle.relaxation.specs.Weights.{least_weight, heaviest}
use Rattle.relaxation.specs.Turns.{turns_of}
use Rattle.relaxation.specs.Restoring.{put_back, restored}
use Rattle.relaxation.specs.Disjoint.{listed_with, listed_in, included, remembered}
use Rattle.relaxation.specs.Frontier.{foremost, taken, added, child, branched}
use Rattle.relaxation.specs.Exploring.{counted_cut, branching, learning, solved, looked, looking, started, explored}
use Rattle.relaxation.specs.Table.{answers, cheapest, cores_listed}
use Rattle.relaxation.specs.Relaxing.{tabled_relaxation, explored_relaxation, relaxed_within, relaxing}

abbrev weighing : ℕ → ℕ → ℕ → Rule
weighing u l w = rule_of (u ∷ l ∷ w ∷ [])

-- K8, where the core is both of them
abbrev k8 : ℕ → ℕ → TaskSet
k8 v w = holding (sheet sheet_b (weighing 1 0 v ∷ weighing 2 0 w ∷ []))

-- two cores that share rule 0, which is cheaper than the other two together, and dearer than each
abbrev pub crossed : TaskSet
crossed = holding (sheet (task 1 3 3 0 0 ∷ task 1 3 3 0 0 ∷ []) (weighing 0 1 5 ∷ weighing 1 0 2 ∷ weighing 1 0 4 ∷ []))

-- the rules marked in the first list are dropped, and rules are in the cores with the numbers of the second
abbrev pub gives : List Bool → ℕ → ℕ → List ℕ → ℕ → ℕ → Result Relaxed Refusal
gives dropped weight floor cores ncores count =
    Ok (record {
      relaxation = Some (record {
        dropped = pad max_rules false dropped;
        weight = weight;
        floor = floor;
        cores = pad max_rules 0 cores;
        ncores = ncores;
      });
      count = count;
    })

pub record Relaxations : Type 0 where
  -- every set is solved: the cheaper rule of K8 goes
  pub k8_first : relaxing (k8 3 5) 4_096 ≡ gives (true ∷ false ∷ []) 3 3 (1 ∷ 1 ∷ []) 1 4
  pub k8_second : relaxing (k8 5 3) 4_096 ≡ gives (false ∷ true ∷ []) 3 3 (1 ∷ 1 ∷ []) 1 4
  -- of K6 two rules must go, each a core
  pub k6 : relaxing (holding sheet_k6) 4_096 ≡ gives (false ∷ true ∷ true ∷ []) 2 2 (0 ∷ 1 ∷ 2 ∷ []) 2 8
  -- no rules, and no order even so
  pub no_rules : relaxing (holding (sheet sheet_b [])) 4_096 ≡ gives [] 0 0 [] 0 1
  pub hopeless : relaxing (holding sheet_k4) 4_096 ≡ Ok (record { relaxation = None; count = 1 })
  -- the budget is for the set of no rules alone; for a rule put back; for both; and for a core
  pub one : relaxing (k8 3 5) 1 ≡ gives (true ∷ true ∷ []) 8 0 [] 0 1
  pub two : relaxing (k8 3 5) 2 ≡ gives (true ∷ false ∷ []) 3 0 [] 0 2
  pub three : relaxing (k8 3 5) 3 ≡ gives (true ∷ false ∷ []) 3 0 [] 0 3
  pub five : relaxing (k8 3 5) 5 ≡ gives (true ∷ false ∷ []) 3 3 (1 ∷ 1 ∷ []) 1 5
  -- with more, sets are looked at: rule 0 was put back first, and is the cheaper one to give up
  pub seven : relaxing crossed 7 ≡ gives (false ∷ true ∷ true ∷ []) 6 4 (1 ∷ 0 ∷ 1 ∷ []) 1 7
  -- a set that has no order is counted where the budget ends before its core
  pub eight : relaxing crossed 8 ≡ gives (false ∷ true ∷ true ∷ []) 6 4 (1 ∷ 0 ∷ 1 ∷ []) 1 8
  pub twelve : relaxing crossed 12 ≡ gives (true ∷ false ∷ false ∷ []) 5 5 (1 ∷ 0 ∷ 1 ∷ []) 1 12
  pub k6_explored : relaxing (holding sheet_k6) 100 ≡ gives (false ∷ true ∷ true ∷ []) 2 2 (0 ∷ 1 ∷ 2 ∷ []) 2 11
  -- 14, 13, 16
  pub no_budget : relaxing (k8 3 5) 0 ≡ Err Budget
  pub large_budget : relaxing (k8 3 5) 10_001 ≡ Err Budget
  pub no_tasks : relaxing fresh_set 0 ≡ Err NoTasks
  pub not_made : relaxing unmade 0 ≡ Err NotMade

pub relaxations : Relaxations
unfolding relaxing relaxed_within tabled_relaxation explored_relaxation explored looking looked solved started learning branching counted_cut restored put_back turns_of heaviest listed_in included remembered foremost taken added child branched answers cheapest cores_listed listed_with least_weight numbered ruled_out tried is_made task_fits rule_fits entry_fits row_refusals place_refusals weight_refusals section_on longest_section all greatest count maximum sum
    feasible fill may_take ready unassigned demand interference blocking_of window_from window_of response_of
relaxations =
    record {
      k8_first = refl;
      k8_second = refl;
      k6 = refl;
      no_rules = refl;
      hopeless = refl;
      one = refl;
      two = refl;
      three = refl;
      five = refl;
      seven = refl;
      eight = refl;
      twelve = refl;
      k6_explored = refl;
      no_budget = refl;
      large_budget = refl;
      no_tasks = refl;
      not_made = refl;
    }
