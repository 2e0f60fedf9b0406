-- The check of 14, as the code makes it: of the used entries of each list, and of the others. Assumes nothing.
use Rattle.std.specs.Prelude.{◌≡◌, Bool, true, false, ◌&&◌, List, ℕ, ◌+◌, ◌-◌, ◌≤◌, leb, length, take, drop, get_or, is_ok}
use Rattle.std.specs.List.{list_all}
use Rattle.std.proofs.Math.Path.{fun_ext}
use Rattle.std.proofs.Common.{ap, ◌∙◌, arith, length-drop, get_or-drop, lt-ltb, le-ltb}
use Rattle.std.proofs.lemmas.Bool.Decides.{nat_tests}
use Rattle.sets.specs.Bounded.{all, all_same, all_split}
use Rattle.sets.specs.Items.{all-taken}
use Rattle.taskset.specs.declared.Rule.{Rule}
use Rattle.taskset.specs.declared.TaskSet.{TaskSet}
use Rattle.taskset.specs.Refusals.{max_tasks, max_rules, first_of, row_refusals, index_refusals, weight_refusals, entry_fits}
use Rattle.taskset.specs.Model.{blank_task, blank_rule}
use Rattle.taskset.specs.Adding.{is_blank_task, is_blank_rule, task_fits, rule_fits, entry, is_made}
use Rattle.taskset.specs.RefusalLaws.{rule_counted}
use Rattle.taskset.specs.Passing.{Sized}

-- an array of which n entries are used
module _ {A : Type 0} (fits : Bool → A → Bool) (d : A) (limit n : ℕ) (xs : List A) where
  used_part : n ≤ length xs → all n (entry fits d n xs) ≡ list_all (fits true) (take n xs)
  used_part few =
      all_same n (entry fits d n xs) (λ k. fits true (get_or xs k d)) (λ k h. rw (lt-ltb k n h)) ∙ all-taken (fits true) d xs n few

  unused_part : length (drop n xs) ≡ limit - n
      → all (limit - n) (λ k. entry fits d n xs (n + k)) ≡ list_all (fits false) (take (limit - n) (drop n xs))
  unused_part rest =
      all_same (limit - n) (λ k. entry fits d n xs (n + k)) (λ k. fits false (get_or (drop n xs) k d))
      (λ k h. rw (le-ltb (n + k) n (omega arith), get_or-drop n xs k d))
      ∙ all-taken (fits false) d (drop n xs) (limit - n) (omega (arith, rest))

  entries_split : length xs ≡ limit → n ≤ limit
      → all limit (entry fits d n xs) ≡ (list_all (fits true) (take n xs) && list_all (fits false) (take (limit - n) (drop n xs)))
  entries_split long few =
      let sum : n + (limit - n) ≡ limit = omega arith in
      let used = used_part (omega (arith, long)) in
      let unused = unused_part (omega (arith, long, length-drop n xs)) in
      rw (← used, ← unused) (rw sum at (all_split n (limit - n) (entry fits d n xs)))

-- the tests of the used and the unused entries
abbrev pub tasks_fit : TaskSet → Bool
tasks_fit s = list_all (λ t. is_ok (first_of (row_refusals t))) (take s.ntasks s.tasks)

abbrev pub tasks_blank : TaskSet → Bool
tasks_blank s = list_all is_blank_task (take (max_tasks - s.ntasks) (drop s.ntasks s.tasks))

abbrev pub rule_taken : ℕ → Rule → Bool
rule_taken n r = is_ok (first_of (index_refusals n r)) && is_ok (first_of (weight_refusals r))

abbrev pub rules_fit : TaskSet → Bool
rules_fit s = list_all (rule_taken s.ntasks) (take s.nrules s.rules)

abbrev pub rules_blank : TaskSet → Bool
rules_blank s = list_all is_blank_rule (take (max_rules - s.nrules) (drop s.nrules s.rules))

tasks_tested : (s : TaskSet) → Sized s → s.ntasks ≤ max_tasks
    → all max_tasks (entry (task_fits s.ntasks s.nrules) blank_task s.ntasks s.tasks) ≡ (tasks_fit s && tasks_blank s)
unfolding task_fits entry_fits row_refusals
tasks_tested s size few = entries_split (task_fits s.ntasks s.nrules) blank_task max_tasks s.ntasks s.tasks size.0 few

rules_tested : (s : TaskSet) → Sized s → s.nrules ≤ max_rules
    → all max_rules (entry (rule_fits s.ntasks s.nrules) blank_rule s.nrules s.rules) ≡ (rules_fit s && rules_blank s)
unfolding rule_fits
rules_tested s size few =
    let counted : rule_fits s.ntasks s.nrules true ≡ rule_taken s.ntasks = fun_ext (rule_counted s.ntasks s.nrules) in
    entries_split (rule_fits s.ntasks s.nrules) blank_rule max_rules s.nrules s.rules size.1 few
    ∙ ap (λ (f : Rule → Bool). list_all f (take s.nrules s.rules) && rules_blank s) counted

-- so the check is six tests
pub made_is : (s : TaskSet) → Sized s
    → is_made s ≡ (leb s.ntasks max_tasks && leb s.nrules max_rules && (tasks_fit s && tasks_blank s) && (rules_fit s && rules_blank s))
unfolding is_made
made_is s size = grind (arith, nat_tests, tasks_tested s size, rules_tested s size)
