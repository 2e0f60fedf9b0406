-- Joining on some sheets as facts about the definition, with one proof. Assumes nothing.
use Rattle.std.specs.Prelude.{Ok, Err, ◌≡◌, refl, [], ◌∷◌, ℕ}
use Rattle.sets.specs.Bounded.{all}
use Rattle.sets.specs.Maximum.{maximum}
use Rattle.sets.specs.Collected.{collected}
use Rattle.taskset.specs.declared.Changed.{Changed}
use Rattle.taskset.specs.declared.refusals.Refusal.{Refusal}
use Rattle.taskset.specs.declared.refusals.Refusal.TheVariants.{Execution, SameTask, NoSuchTask, DifferentPeriods, BothWays, NotMade}
use Rattle.taskset.specs.Refusals.{section_on, longest_section, row_refusals, place_refusals, weight_refusals, entry_fits}
use Rattle.taskset.specs.Model.{Lists}
use Rattle.taskset.specs.Numbers.{task_of, rule_of}
use Rattle.taskset.specs.Adding.{holding, fresh_set, task_fits, rule_fits, is_made}
use Rattle.samples.specs.Sheets.{sheet, task, above, unmade}
use Rattle.joining.specs.Joining.{joint, new_place, puts, joined, join_refusals, joining}
use Rattle.joining.specs.SideBySide.{old_place, side_by_side}

-- two blocks of one period, at places 1 and 3, with a rule between them
abbrev pub two_blocks : Lists
two_blocks =
    sheet (task 1 8 8 0 0 ∷ task 2 12 12 0 1 ∷ task 1 6 6 0 0 ∷ task_of (3 ∷ 12 ∷ 10 ∷ 1 ∷ 2 ∷ 3 ∷ 0 ∷ 0 ∷ 0 ∷ 0 ∷ 0 ∷ 0 ∷ []) ∷ task 1 24 24 0 0 ∷ [])
    (above 3 1 ∷ rule_of (0 ∷ 3 ∷ 5 ∷ []) ∷ above 1 4 ∷ above 2 0 ∷ [])

-- and joined
abbrev pub one_block : Lists
one_block =
    sheet (task 1 8 8 0 0 ∷ task_of (5 ∷ 12 ∷ 10 ∷ 1 ∷ 2 ∷ 3 ∷ 0 ∷ 0 ∷ 0 ∷ 0 ∷ 0 ∷ 0 ∷ []) ∷ task 1 6 6 0 0 ∷ task 1 24 24 0 0 ∷ [])
    (rule_of (0 ∷ 1 ∷ 5 ∷ []) ∷ above 1 3 ∷ above 2 0 ∷ [])

-- the same blocks with other rules
abbrev pub ruled : Lists
ruled = sheet two_blocks.tasks (above 1 3 ∷ above 1 3 ∷ above 3 4 ∷ above 4 1 ∷ [])

abbrev pub circled : Lists
circled = sheet two_blocks.tasks (above 1 3 ∷ above 2 0 ∷ above 3 1 ∷ above 0 4 ∷ above 4 0 ∷ [])

-- two tasks whose execution times are c and 7 of 12, with rules both ways and without; and one of another period
abbrev pub pair : ℕ → Lists
pair c = sheet (task c 12 12 0 0 ∷ task 7 12 12 0 0 ∷ task 9 9 9 0 0 ∷ []) (above 0 1 ∷ above 1 0 ∷ [])

abbrev pub free_pair : ℕ → Lists
free_pair c = sheet (pair c).tasks []

abbrev pub refused : Refusal → Lists → Changed
refused k l = record { answer = Err k; set = holding l }

abbrev pub gives : Lists → Changed
gives l = record { answer = Ok tt; set = holding l }

pub record Joinings : Type 0 where
  pub joins : joining (holding two_blocks) 1 3 ≡ gives one_block
  -- either way round of the two places
  pub other_way : joining (holding two_blocks) 3 1 ≡ gives one_block
  -- two equal rules between them are no rules both ways, and neither is a way round through another task
  pub ruled_twice : joining (holding ruled) 1 3 ≡ gives (sheet one_block.tasks (above 1 3 ∷ above 3 1 ∷ []))
  -- a sum of just the period
  pub whole : joining (holding (free_pair 5)) 1 0 ≡ gives (sheet (task 12 12 12 0 0 ∷ task 9 9 9 0 0 ∷ []) [])
  -- 6, though there is no such task; 11, whichever is missing
  pub same : joining (holding two_blocks) 1 1 ≡ refused SameTask two_blocks
  pub same_missing : joining (holding two_blocks) 5 5 ≡ refused SameTask two_blocks
  pub one_missing : joining (holding two_blocks) 5 1 ≡ refused NoSuchTask two_blocks
  pub other_missing : joining (holding two_blocks) 1 64 ≡ refused NoSuchTask two_blocks
  pub none_there : joining fresh_set 0 1 ≡ record { answer = Err NoSuchTask; set = fresh_set }
  -- 17, also where rules stand both ways and the sum is too long
  pub periods : joining (holding two_blocks) 0 1 ≡ refused DifferentPeriods two_blocks
  pub periods_first : joining (holding (sheet (pair 12).tasks (above 0 2 ∷ above 2 0 ∷ []))) 0 2
      ≡ refused DifferentPeriods (sheet (pair 12).tasks (above 0 2 ∷ above 2 0 ∷ []))
  -- 18, also where the sum is too long
  pub both_ways : joining (holding circled) 1 3 ≡ refused BothWays circled
  pub both_first : joining (holding (pair 6)) 0 1 ≡ refused BothWays (pair 6)
  -- 2
  pub too_long : joining (holding (free_pair 6)) 0 1 ≡ refused Execution (free_pair 6)
  -- 14 before all
  pub not_made : joining unmade 1 1 ≡ record { answer = Err NotMade; set = unmade }
  -- a valid order of the joined blocks, with the two side by side: by the rule, and the other way round
  pub second_above : side_by_side 3 1 (2 ∷ 0 ∷ 1 ∷ 3 ∷ []) ≡ 2 ∷ 0 ∷ 3 ∷ 1 ∷ 4 ∷ []
  pub first_above : side_by_side 1 3 (2 ∷ 0 ∷ 1 ∷ 3 ∷ []) ≡ 2 ∷ 0 ∷ 1 ∷ 3 ∷ 4 ∷ []

pub joinings : Joinings
unfolding joining joined joint new_place puts join_refusals collected side_by_side old_place is_made task_fits rule_fits entry_fits row_refusals place_refusals
    weight_refusals section_on longest_section all maximum
joinings =
    record {
      joins = refl;
      other_way = refl;
      ruled_twice = refl;
      whole = refl;
      same = refl;
      same_missing = refl;
      one_missing = refl;
      other_missing = refl;
      none_there = refl;
      periods = refl;
      periods_first = refl;
      both_ways = refl;
      both_first = refl;
      too_long = refl;
      not_made = refl;
      second_above = refl;
      first_above = refl;
    }
