-- Cases K1 to K13 of document 01 as one list of facts about the definitions, with one proof: K4 with its listing by document 02, (b),
-- K12 and K13 with the sections of (c), and what the ceiling protocol charges a task between two others. Assumes nothing.
use Rattle.std.specs.Prelude.{Option, Some}
use Rattle.std.specs.Prelude.{◌≡◌, refl, true, false, ℕ}
use Rattle.std.proofs.Common.{subst}
use mathlib.Core.List.{List, [], ◌∷◌, ◌++◌, map, flat_map}
use Rattle.sets.specs.Bounded.{all, greatest, count}
use Rattle.sets.specs.Collected.{collected}
use Rattle.sets.specs.Sum.{sum}
use Rattle.sets.specs.Maximum.{maximum}
use Rattle.lines.specs.Decimal.{are_digits, value_after, is_number, digits_in, decimal}
use Rattle.lines.specs.Line.{line, lines_of}
use Rattle.lines.specs.Parts.{parts}
use Rattle.taskset.specs.declared.Task.{Task}
use Rattle.taskset.specs.Refusals.{section_on, longest_section, row_refusals, place_refusals, weight_refusals, refusal_by}
use Rattle.taskset.specs.Model.{Lists, no_lists, hear, heard, Sound}
use Rattle.taskset.specs.Holding.{none_sound, heard_sound}
use Rattle.taskset.specs.Exact.{calls_of}
use Rattle.text.specs.Text.{are_numbers, has_form, asked, read_from, reading}
use Rattle.response.specs.Blocking.{blocking_of}
use Rattle.response.specs.Equation.{interference, demand, window_from, window_of, response_of}
use Rattle.response.specs.Timing.{timing_by}
use Rattle.assignment.specs.LateTasks.{unassignable}
use Rattle.assignment.specs.Orders.{every_rule, hp, ValidOrder, SomeOrder}
use Rattle.assignment.specs.Audsley.{unassigned, ready, may_take, fill, feasible, response_at}
use Rattle.verdict.specs.Core.{tried, cut_of}
use Rattle.verdict.specs.Verdict.{cored, verdict_on, deciding}
use Rattle.verdict.specs.Solving.{assign_valid}
use Rattle.listing.specs.Listing.{listing_with, listing}
use Rattle.samples.specs.Sheets.{above, sheet, sheet_a, sheet_b, sharing, between, sheet_k4, sheet_k6}
use Rattle.answer.specs.Answer.{report}

abbrev pub as_typed : List ℕ
as_typed = 0 ∷ 1 ∷ 2 ∷ []

-- the responses of an order, each up to its deadline
abbrev pub responses_of : List Task → List ℕ → List (Option ℕ)
responses_of tasks order = map (λ i. response_at tasks i (hp order i)) order

-- the end of a task line without sections
abbrev pub eight_zeros : List ℕ
eight_zeros = 9 ∷ 48 ∷ 9 ∷ 48 ∷ 9 ∷ 48 ∷ 9 ∷ 48 ∷ 9 ∷ 48 ∷ 9 ∷ 48 ∷ 9 ∷ 48 ∷ 9 ∷ 48 ∷ 10 ∷ []

-- the example of document 01, a line of bytes for each of its lines: three task lines and a rule line
abbrev pub example_text : List ℕ
example_text =
    (116 ∷ 9 ∷ 49 ∷ 9 ∷ 52 ∷ 9 ∷ 52 ∷ 9 ∷ 48 ∷ eight_zeros)
    ++ (116 ∷ 9 ∷ 50 ∷ 9 ∷ 54 ∷ 9 ∷ 54 ∷ 9 ∷ 48 ∷ eight_zeros)
    ++ (116 ∷ 9 ∷ 51 ∷ 9 ∷ 49 ∷ 50 ∷ 9 ∷ 49 ∷ 50 ∷ 9 ∷ 48 ∷ eight_zeros)
    ++ (114 ∷ 9 ∷ 49 ∷ 9 ∷ 48 ∷ 9 ∷ 49 ∷ 10 ∷ [])

-- and what `orders` writes: `order` and the count, then level, place and response
abbrev pub example_listing : List ℕ
example_listing =
    (111 ∷ 114 ∷ 100 ∷ 101 ∷ 114 ∷ 9 ∷ 51 ∷ 10 ∷ [])
    ++ (48 ∷ 9 ∷ 49 ∷ 9 ∷ 50 ∷ 10 ∷ [])
    ++ (49 ∷ 9 ∷ 48 ∷ 9 ∷ 51 ∷ 10 ∷ [])
    ++ (50 ∷ 9 ∷ 50 ∷ 9 ∷ 49 ∷ 48 ∷ 10 ∷ [])

-- K4's listing: `core` and 0, then `late`, place and response for each task
abbrev pub late_listing : List ℕ
late_listing =
    (99 ∷ 111 ∷ 114 ∷ 101 ∷ 9 ∷ 48 ∷ 10 ∷ [])
    ++ (108 ∷ 97 ∷ 116 ∷ 101 ∷ 9 ∷ 48 ∷ 9 ∷ 48 ∷ 10 ∷ [])
    ++ (108 ∷ 97 ∷ 116 ∷ 101 ∷ 9 ∷ 49 ∷ 9 ∷ 48 ∷ 10 ∷ [])
    ++ (108 ∷ 97 ∷ 116 ∷ 101 ∷ 9 ∷ 50 ∷ 9 ∷ 49 ∷ 48 ∷ 10 ∷ [])

pub record Cases : Type 0 where
  pub k1 : responses_of (sheet_a 0 12) as_typed ≡ Some 1 ∷ Some 3 ∷ Some 10 ∷ []
  pub k2 : (demand (sheet_a 0 12) 2 (hp as_typed 2) 9 ≡ 10) × (demand (sheet_a 0 12) 2 (hp as_typed 2) 10 ≡ 10)
  pub k3 : SomeOrder (sheet (sheet_a 0 10) []) every_rule
  pub k4 : (verdict_on sheet_k4 ≡ cored []) × (listing sheet_k4 (cored []) ≡ late_listing)
  pub k5 : report example_text ≡ example_listing
  pub k6 : verdict_on sheet_k6 ≡ cored (false ∷ false ∷ true ∷ [])
  pub k7 : verdict_on (sheet (sheet_a 0 12) (above 0 1 ∷ above 1 0 ∷ [])) ≡ cored (true ∷ true ∷ [])
  pub k8 : verdict_on (sheet sheet_b (above 1 0 ∷ above 2 0 ∷ [])) ≡ cored (true ∷ true ∷ [])
  pub k9 : ValidOrder (sheet sheet_b (above 1 0 ∷ [])) every_rule (1 ∷ 0 ∷ 2 ∷ [])
      × (responses_of sheet_b (1 ∷ 0 ∷ 2 ∷ []) ≡ Some 2 ∷ Some 4 ∷ Some 6 ∷ [])
  pub k10 : response_at (sheet_a 1 12) 1 (hp as_typed 1) ≡ Some 3
  pub k11 : response_at (sheet_a 2 12) 1 (hp as_typed 1) ≡ Some 4
  pub k12 : responses_of (sharing 3) (0 ∷ 1 ∷ []) ≡ Some 4 ∷ Some 4 ∷ []
  pub k13 : verdict_on (sheet (sharing 4) []) ≡ cored []
  -- the task between is blocked over a resource that it does not use itself; the lowest is not
  pub ceiling : map (λ i. blocking_of between i (hp as_typed i)) as_typed ≡ 3 ∷ 3 ∷ 0 ∷ []

-- lists that the reference model hears whole are lists that adding takes
heard_whole : (l : Lists) → heard no_lists (calls_of l) ≡ l → Sound l
heard_whole l e = subst Sound e (heard_sound no_lists none_sound (calls_of l))

pub cases : Cases
unfolding report reading read_from parts asked has_form are_numbers is_number are_digits value_after
    deciding collected flat_map line lines_of listing_with decimal digits_in verdict_on cut_of tried feasible fill may_take ready
    unassigned unassignable greatest all timing_by response_of window_of window_from demand blocking_of interference sum maximum count hear heard
    refusal_by row_refusals place_refusals weight_refusals section_on longest_section
cases =
    record {
      k1 = refl;
      k2 = (refl, refl);
      k3 = (as_typed, assign_valid (sheet (sheet_a 0 10) []) (heard_whole (sheet (sheet_a 0 10) []) refl) every_rule refl);
      k4 = (refl, refl);
      k5 = refl;
      k6 = refl;
      k7 = refl;
      k8 = refl;
      k9 = (assign_valid (sheet sheet_b (above 1 0 ∷ [])) (heard_whole (sheet sheet_b (above 1 0 ∷ [])) refl) every_rule refl, refl);
      k10 = refl;
      k11 = refl;
      k12 = refl;
      k13 = refl;
      ceiling = refl;
    }
