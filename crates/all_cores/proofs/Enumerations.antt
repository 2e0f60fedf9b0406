-- Every core of document 01's sheets, as facts about the definition, with one proof. Assumes nothing.
use Rattle.std.specs.Prelude.{Ok, Err, ◌≡◌, refl, List, [], ◌∷◌, ◌++◌}
use Rattle.sets.specs.Bounded.{all, greatest, count}
use Rattle.sets.specs.Collected.{collected}
use Rattle.sets.specs.Sum.{sum}
use Rattle.sets.specs.Maximum.{maximum}
use Rattle.sets.specs.Numbered.{numbered}
use Rattle.taskset.specs.declared.Rule.{Rule}
use Rattle.taskset.specs.declared.refusals.Refusal.TheVariants.{ShortBuffer, NoTasks, NotMade, ManyRules}
use Rattle.taskset.specs.Refusals.{section_on, longest_section, row_refusals, place_refusals, weight_refusals, entry_fits}
use Rattle.taskset.specs.Adding.{holding, fresh_set, task_fits, rule_fits, is_made}
use Rattle.response.specs.Blocking.{blocking_of}
use Rattle.response.specs.Equation.{interference, demand, window_from, window_of, response_of}
use Rattle.assignment.specs.Audsley.{unassigned, ready, may_take, fill, feasible}
use Rattle.subsets.specs.Subsets.{ruled_out}
use Rattle.samples.specs.Sheets.{above, sheet, sheet_a, sheet_b, sheet_k4, sheet_k6, unmade}
use Rattle.all_cores.specs.Enumerating.{cores_of, enumerating}

-- six rules one way round
abbrev six : List Rule
six = above 1 0 ∷ above 1 0 ∷ above 1 0 ∷ above 1 0 ∷ above 1 0 ∷ above 1 0 ∷ []

pub record Enumerations : Type 0 where
  -- K6: rule 1 alone counts 2, and rule 2 alone 4; K7 and K8: both rules count 3
  pub k6 : enumerating (holding sheet_k6) 924 ≡ Ok (2 ∷ 4 ∷ [])
  pub k7 : enumerating (holding (sheet (sheet_a 0 12) (above 0 1 ∷ above 1 0 ∷ []))) 924 ≡ Ok (3 ∷ [])
  pub k8 : enumerating (holding (sheet sheet_b (above 1 0 ∷ above 2 0 ∷ []))) 924 ≡ Ok (3 ∷ [])
  -- each of two equal rules clashes with the one against them
  pub equal : enumerating (holding (sheet (sheet_a 0 12) (above 0 1 ∷ above 1 0 ∷ above 0 1 ∷ []))) 924 ≡ Ok (3 ∷ 6 ∷ [])
  -- no rules, and an order that keeps them all: none; no order even without rules: the empty one alone
  pub no_rules : enumerating (holding (sheet sheet_b [])) 924 ≡ Ok []
  pub kept : enumerating (holding (sheet sheet_b (above 1 0 ∷ []))) 924 ≡ Ok []
  pub hopeless : enumerating (holding sheet_k4) 924 ≡ Ok (0 ∷ [])
  pub hopeless_rules : enumerating (holding (sheet (sheet_a 0 9) (above 0 1 ∷ above 1 0 ∷ []))) 924 ≡ Ok (0 ∷ [])
  -- 14, 13, 24, 9, whatever comes after
  pub short_buffer : enumerating (holding sheet_k6) 923 ≡ Err ShortBuffer
  pub many_rules : enumerating (holding (sheet (sheet_a 0 12) (six ++ above 1 0 ∷ six))) 923 ≡ Err ManyRules
  pub no_tasks : enumerating fresh_set 0 ≡ Err NoTasks
  pub not_made : enumerating unmade 0 ≡ Err NotMade

pub enumerations : Enumerations
unfolding enumerating cores_of collected ruled_out numbered is_made task_fits rule_fits entry_fits row_refusals place_refusals weight_refusals section_on longest_section all greatest count maximum sum
    feasible fill may_take ready unassigned demand interference blocking_of window_from window_of response_of
enumerations =
    record {
      k6 = refl;
      k7 = refl;
      k8 = refl;
      equal = refl;
      no_rules = refl;
      kept = refl;
      hopeless = refl;
      hopeless_rules = refl;
      short_buffer = refl;
      many_rules = refl;
      no_tasks = refl;
      not_made = refl;
    }
