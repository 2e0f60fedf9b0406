-- Trials of document 01's sheets as facts about the definition, with one proof. Assumes nothing.
use Rattle.std.specs.Prelude.{Ok, Err, ◌≡◌, refl, true, false, [], ◌∷◌}
use Rattle.sets.specs.Bounded.{all, greatest, count}
use Rattle.sets.specs.Sum.{sum}
use Rattle.sets.specs.Maximum.{maximum}
use Rattle.taskset.specs.declared.TaskSet.{TaskSet}
use Rattle.taskset.specs.declared.refusals.Refusal.TheVariants.{NotMade}
use Rattle.taskset.specs.Refusals.{section_on, longest_section, row_refusals, place_refusals, weight_refusals, entry_fits}
use Rattle.taskset.specs.Adding.{holding, fresh_set, task_fits, rule_fits, is_made}
use Rattle.response.specs.Blocking.{blocking_of}
use Rattle.response.specs.Equation.{interference, demand, window_from, window_of, response_of}
use Rattle.assignment.specs.Audsley.{unassigned, ready, may_take, fill, feasible}
use Rattle.samples.specs.Sheets.{sheet_k4, sheet_k6, unmade}
use Rattle.feasibility.specs.Trying.{trying}

-- the set of K6, where rule 1 is a core and so is rule 2
abbrev pub clashing : TaskSet
clashing = holding sheet_k6

pub record Trials : Type 0 where
  pub every : trying clashing (true ∷ true ∷ true ∷ []) ≡ Ok false
  pub one_core : trying clashing (false ∷ true ∷ false ∷ []) ≡ Ok false
  pub other_core : trying clashing (false ∷ false ∷ true ∷ []) ≡ Ok false
  pub neither : trying clashing (true ∷ false ∷ false ∷ []) ≡ Ok true
  pub none : trying clashing [] ≡ Ok true
  -- place 3 has no rule
  pub no_rule_there : trying clashing (true ∷ false ∷ false ∷ true ∷ []) ≡ Ok true
  -- no order meets every deadline
  pub hopeless : trying (holding sheet_k4) [] ≡ Ok false
  pub no_tasks : trying fresh_set (true ∷ []) ≡ Ok true
  pub not_made : trying unmade [] ≡ Err NotMade

pub trials : Trials
unfolding trying is_made task_fits rule_fits entry_fits row_refusals place_refusals weight_refusals section_on longest_section all greatest count
    maximum sum feasible fill may_take ready unassigned demand interference blocking_of window_from window_of response_of
trials =
    record {
      every = refl;
      one_core = refl;
      other_core = refl;
      neither = refl;
      none = refl;
      no_rule_there = refl;
      hopeless = refl;
      no_tasks = refl;
      not_made = refl;
    }
