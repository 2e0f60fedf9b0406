-- What merging leaves in a set: rows as the code reads and writes them. Assumes nothing.
use Rattle.std.specs.Prelude.{◌≡◌, refl, List, [], ◌∷◌, ◌++◌, ℕ, ◌-◌, ◌≤◌, ◌<◌, true, length, get_or, set, replicate}
use Rattle.std.specs.List.{remove}
use Rattle.std.proofs.Common.{sym, ap, ap₂, ◌∙◌, arith, length-set, get_or-set_same, get_or-take, ext_get_or}
use Rattle.std.proofs.lemmas.List.{length-replicate, get_or-replicate}
use Rattle.std.proofs.lemmas.List.Edits.{length-remove}
use Rattle.std.specs.Array.{AllOfLen}
use Rattle.sets.specs.Pad.{pad, overwritten_pad, remove_pad, overwritten_removed}
use Rattle.taskset.specs.declared.Task.{Task}
use Rattle.taskset.specs.declared.Rule.{Rule}
use Rattle.taskset.specs.declared.TaskSet.{TaskSet}
use Rattle.taskset.specs.Refusals.{max_tasks, max_rules, max_period, resources}
use Rattle.taskset.specs.Model.{blank_task, blank_rule, no_task, task_at}
use Rattle.taskset.specs.Adding.{holding, lists, is_made}
use Rattle.taskset.specs.Passing.{Sized, passed, passed_few, zero_task}
use Rattle.joining.specs.Joining.{joint, joined_rules, joined}

-- ---- a row taken out: it is blanked and goes to the end

pub default_blank : (t : Task) → t.period ≡ 0 → t.execution ≡ 0 → t.deadline ≡ 0 → t.jitter ≡ 0 → AllOfLen (λ x. x ≡ 0) t.sections resources
    → t ≡ blank_task
default_blank t period execution deadline jitter zero =
    let none : ℕ = 0 in
    zero_task t period execution deadline jitter
    (ext_get_or none t.sections (replicate resources none) (zero.long ∙ sym (length-replicate resources none))
    (λ k h.
    let inside : k < resources = omega (arith, h, zero.long) in
    zero.at k none inside ∙ sym (get_or-replicate resources k none none inside)))

pub taken_out : (xs : List Task) (i : ℕ) → i < length xs → (t : Task) → t ≡ blank_task
    → remove (set xs i t) i ++ get_or (set xs i t) i blank_task ∷ [] ≡ remove xs i ++ blank_task ∷ []
taken_out xs i h t blank = rw (overwritten_removed xs i t, get_or-set_same xs i t blank_task h, blank) refl

module _ (s : TaskSet) (size : Sized s) (made : is_made s ≡ true) where
  abbrev tasks : List Task
  tasks = (lists s).tasks

  -- a row as the code reads it, in its ranges
  pub row_read : (i : ℕ) → i < length tasks → get_or s.tasks i no_task ≡ task_at tasks i
  row_read i h = let p = passed s size made in sym (get_or-take s.ntasks s.tasks i no_task (omega (arith, p.ntasks)))

  pub row_small : (i : ℕ) → i < length tasks → (get_or s.tasks i no_task).execution ≤ max_period
  row_small i h =
      let p = passed s size made in
      let r = p.sound.tasks.each i h in
      rw (row_read i h) (omega (arith, r.execution, r.period))

  pub rules_few : s.nrules ≤ max_rules
  rules_few = (passed_few s (passed s size made)).1

  module _ (low high : ℕ) (order : low < high) (h : high < length tasks) where
    -- the set with the join's row stored, the other row taken out, and the joined rules
    pub merged_set : (row : Task) → row ≡ joint (get_or s.tasks low no_task) (get_or s.tasks high no_task)
        → (array : List Task) → array ≡ remove (set s.tasks low row) high ++ blank_task ∷ []
        → (written : List Rule × ℕ) → written.0 ≡ pad max_rules blank_rule (joined_rules low high (lists s).rules)
        → written.1 ≡ length (joined_rules low high (lists s).rules)
        → record { tasks = array; ntasks = s.ntasks - 1; rules = written.0; nrules = written.1 } ≡ holding (joined low high (lists s))
    unfolding joined
    merged_set row is array out written rules count =
        let p = passed s size made in
        let longer = length-set tasks low row in
        let inside : high < length (set tasks low row) = omega (arith, longer) in
        let joint_is : row ≡ joint (task_at tasks low) (task_at tasks high) = is ∙ ap₂ joint (row_read low (omega arith)) (row_read high h) in
        let whole : s.tasks ≡ pad max_tasks blank_task tasks = ap (λ (t : TaskSet). t.tasks) (sym p.holds) in
        let stored : array ≡ pad max_tasks blank_task (remove (set tasks low row) high) =
        out
        ∙ ap (λ (r : List Task). remove r high ++ blank_task ∷ [])
        (ap (λ (r : List Task). set r low row) whole ∙ overwritten_pad max_tasks blank_task tasks low (omega arith) row)
        ∙ remove_pad max_tasks blank_task (set tasks low row) high inside (omega (arith, longer, p.sound.tasks.few)) in
        let one_less : s.ntasks - 1 ≡ length (remove (set tasks low row) high) =
        omega (arith, length-remove (set tasks low row) high inside, longer, p.ntasks) in
        rw (stored, rules, count, one_less)
        (ap (λ (t : Task). holding (record { tasks = remove (set tasks low t) high; rules = joined_rules low high (lists s).rules })) joint_is)
