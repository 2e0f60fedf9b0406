-- Answers on document 01's sheets as facts about the definition, with one proof. Assumes nothing.
use Rattle.std.specs.Prelude.{Ok, Err, Some, None, ◌≡◌, refl, [], ◌∷◌}
use Rattle.sets.specs.Bounded.{all, greatest, count}
use Rattle.sets.specs.Sum.{sum}
use Rattle.sets.specs.Maximum.{maximum}
use Rattle.taskset.specs.declared.TaskSet.{TaskSet}
use Rattle.taskset.specs.declared.refusals.Refusal.TheVariants.{NoSuchTask, NotMade}
use Rattle.taskset.specs.Refusals.{section_on, longest_section, row_refusals, place_refusals, weight_refusals, entry_fits}
use Rattle.taskset.specs.Adding.{holding, fresh_set, task_fits, rule_fits, is_made}
use Rattle.response.specs.Blocking.{blocking_of}
use Rattle.response.specs.Equation.{interference, demand, window_from, window_of, response_of}
use Rattle.assignment.specs.Audsley.{unassigned, ready, may_take, fill, feasible}
use Rattle.samples.specs.Sheets.{sheet, task, sheet_a, sharing, sheet_k4, sheet_k6, unmade}
use Rattle.sensitivity.specs.Longest.{longest, longest_of}

abbrev pub plain : TaskSet
plain = holding (sheet (sheet_a 0 12) [])

-- two tasks that share a resource; the second one's section has 3 µs
abbrev pub shared : TaskSet
shared = holding (sheet (sharing 3) [])

-- one task, with a section longer than its deadline
abbrev pub floored : TaskSet
floored = holding (sheet (task 5 12 4 0 5 ∷ []) [])

-- a set that has no order, for the execution time in row 1 alone
abbrev pub overlong : TaskSet
overlong = holding (sheet (task 1 4 4 0 0 ∷ task 6 6 6 0 0 ∷ task 3 12 12 0 0 ∷ []) [])

pub record Figures : Type 0 where
  -- sheet A
  pub a_0 : longest_of plain 0 ≡ Ok (Some 1)
  pub a_1 : longest_of plain 1 ≡ Ok (Some 3)
  pub a_2 : longest_of plain 2 ≡ Ok (Some 5)
  -- K4 has no order: with another task's execution time it has, or not even with 1 µs
  pub k4_0 : longest_of (holding sheet_k4) 0 ≡ Ok None
  pub k4_1 : longest_of (holding sheet_k4) 1 ≡ Ok (Some 1)
  pub k4_2 : longest_of (holding sheet_k4) 2 ≡ Ok (Some 2)
  -- K6, whose rules can't all be had
  pub k6_0 : longest_of (holding sheet_k6) 0 ≡ Ok None
  pub k6_2 : longest_of (holding sheet_k6) 2 ≡ Ok (Some 1)
  -- the row's own execution time is not looked at
  pub own : longest_of overlong 1 ≡ Ok (Some 3)
  -- blocking is by the sections
  pub blocked : longest_of shared 0 ≡ Ok (Some 1)
  pub blocker : longest_of shared 1 ≡ Ok (Some 9)
  -- the floor is the section of 5 µs, though 4 would meet the deadline
  pub floor : longest_of floored 0 ≡ Ok None
  -- 11, on a set without tasks too, and 14 before it
  pub no_task : longest_of plain 3 ≡ Err NoSuchTask
  pub no_tasks : longest_of fresh_set 0 ≡ Err NoSuchTask
  pub not_made : longest_of unmade 65 ≡ Err NotMade

pub figures : Figures
unfolding longest_of longest is_made task_fits rule_fits entry_fits row_refusals place_refusals weight_refusals section_on longest_section all
    greatest count maximum sum feasible fill may_take ready unassigned demand interference blocking_of window_from window_of response_of
figures =
    record {
      a_0 = refl;
      a_1 = refl;
      a_2 = refl;
      k4_0 = refl;
      k4_1 = refl;
      k4_2 = refl;
      k6_0 = refl;
      k6_2 = refl;
      own = refl;
      blocked = refl;
      blocker = refl;
      floor = refl;
      no_task = refl;
      no_tasks = refl;
      not_made = refl;
    }
