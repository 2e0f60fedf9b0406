-- The check is the tests of each list's used entries and of the others, and it passes just the sets that calls make.
use Rattle.std.proofs.Common.{◌≡◌, ◌&&◌, ◌-◌, leb, rules, tests, take, drop, is_ok, arith}
use Rattle.std.proofs.lemmas.Bool.Decides.{nat_tests}
use Rattle.std.proofs.lemmas.Iterator.{YieldsList-from_slice}
use Rattle.std.proofs.lemmas.Iterator.Search.{all_from_yields_List}
use Rattle.taskset.specs.Refusals.{max_tasks, max_rules, first_of, row_refusals}
use Rattle.taskset.specs.Adding.{is_blank_task, is_blank_rule}
use Rattle.taskset.specs.Exact.{passes_exact}
use Rattle.taskset.proofs.Entries.{tasks_fit, tasks_blank, rule_taken, rules_fit, rules_blank, made_is}
use Rattle.taskset.proofs.TaskSet.is_made.Goals as goal
use Rattle.taskset.proofs.TaskSet.is_made.Goals.{Joined-all-2, then-m-le-MAX_RULES, else-m-le-MAX_RULES, then-all, else-all, then-all-2, else-all-2}

-- the value after each test
first_three : (c : Joined-all-2) → let s = c.args.self.now in
    c.if-all-2.value ≡ (leb s.ntasks max_tasks && leb s.nrules max_rules && tasks_fit s && tasks_blank s && rules_fit s)
first_three c =
    let s = c.args.self.now in
    let used_tasks : c.if-m-le-MAX_RULES.value ≡ (leb s.ntasks max_tasks && leb s.nrules max_rules && tasks_fit s) =
    elim c.if-m-le-MAX_RULES.branch [
      | then-m-le-MAX_RULES w ↦
          let e : w.all.result ≡ tasks_fit s =
          all_from_yields_List (λ t. is_ok (first_of (row_refusals t))) _ _ _ w.all.ensures.ran
          (YieldsList-from_slice (take s.ntasks s.tasks) (search rules)) (λ x b q k. search (rules, tests)) in
          grind (arith, nat_tests)
      | else-m-le-MAX_RULES w ↦ grind (arith, nat_tests)
    ] in
    let free_tasks : c.if-all.value ≡ (c.if-m-le-MAX_RULES.value && tasks_blank s) =
    elim c.if-all.branch [
      | then-all w ↦
          let e : w.all-then-all.result ≡ tasks_blank s =
          all_from_yields_List is_blank_task _ _ _ w.all-then-all.ensures.ran
          (YieldsList-from_slice (take (max_tasks - s.ntasks) (drop s.ntasks s.tasks)) (search rules)) (λ x b q k. search (rules, tests)) in
          grind (arith, nat_tests)
      | else-all w ↦ grind (arith, nat_tests)
    ] in
    elim c.if-all-2.branch [
      | then-all-2 w ↦
          let e : w.all-then-all-2.result ≡ rules_fit s =
          all_from_yields_List (rule_taken s.ntasks) _ _ _ w.all-then-all-2.ensures.ran
          (YieldsList-from_slice (take s.nrules s.rules) (search rules)) (λ x b q k. search (rules, tests)) in
          grind (arith, nat_tests)
      | else-all-2 w ↦ grind (arith, nat_tests)
    ]

pub returns-then-all-3-clause-value : goal.returns-then-all-3-clause-value
returns-then-all-3-clause-value c =
    let s = c.args.self.now in
    let e : c.all-then-all-3.result ≡ rules_blank s =
    all_from_yields_List is_blank_rule _ _ _ c.all-then-all-3.ensures.ran
    (YieldsList-from_slice (take (max_rules - s.nrules) (drop s.nrules s.rules)) (search rules)) (λ x b q k. search (rules, tests)) in
    grind (arith, nat_tests, first_three (goal.at.returns-then-all-3-clause-value c).Joined-all-2, made_is s (search rules, search rules))

pub returns-else-all-3-clause-value : goal.returns-else-all-3-clause-value
returns-else-all-3-clause-value c =
    let s = c.args.self.now in
    grind (arith, nat_tests, first_three (goal.at.returns-else-all-3-clause-value c).Joined-all-2, made_is s (search rules, search rules))

pub returns-then-all-3-clause-exact : goal.returns-then-all-3-clause-exact
returns-then-all-3-clause-exact c = passes_exact c.args.self.now (search rules, search rules) _ (returns-then-all-3-clause-value c)

pub returns-else-all-3-clause-exact : goal.returns-else-all-3-clause-exact
returns-else-all-3-clause-exact c = passes_exact c.args.self.now (search rules, search rules) _ (returns-else-all-3-clause-value c)
