-- Lists with another execution time in one row: with a shorter one less is broken, so what is accepted up to the period reaches from
-- the floor on. Assumes nothing.
use Rattle.std.specs.Prelude.{◌≡◌, refl, List, ◌↔◌, ℕ, ◌≤◌, ◌<◌, T, length, set}
use Rattle.std.proofs.Common.{sym, ap, ◌∙◌, arith, length-set}
use Rattle.std.proofs.lemmas.List.{set-set}
use Rattle.sets.specs.Marks.{first}
use Rattle.taskset.specs.declared.Task.{Task}
use Rattle.taskset.specs.Refusals.{InRanges, section_on}
use Rattle.taskset.specs.RefusalLaws.{longest_exactly}
use Rattle.taskset.specs.Model.{Lists, task_at, Sound}
use Rattle.taskset.specs.RowLaws.{row_changed, row_kept, each_row, changed_sound}
use Rattle.response.proofs.Demand.{Shorter}
use Rattle.assignment.specs.Audsley.{problem}
use Rattle.assignment.specs.Decision.{Eases, feasible_eased}
use Rattle.assignment.proofs.Preemptive.{lawful, shorter_eases, first_valid, feasible-order}
use Rattle.sensitivity.specs.Longest.{running, with_execution, least_at, period_at, accepts}
use Rattle.sensitivity.specs.Sensitivity.{Accepted}

module _ (l : Lists) (i : ℕ) (here : i < length l.tasks) where
  abbrev rows : ℕ → List Task
  rows c = (with_execution l i c).tasks

  pub own_row : (c : ℕ) → task_at (rows c) i ≡ running (task_at l.tasks i) c
  own_row c = row_changed l.tasks i here (running (task_at l.tasks i) c)

  -- the last execution time counts
  pub twice : (c d : ℕ) → with_execution (with_execution l i c) i d ≡ with_execution l i d
  twice c d =
      ap (λ (ts : List Task). record { tasks = ts; rules = l.rules })
      (ap (λ (t : Task). set (rows c) i (running t d)) (own_row c) ∙ set-set l.tasks i _ _)

  pub shorter : (c d : ℕ) → c ≤ d → Shorter (rows c) (rows d)
  shorter c d h =
      record {
        same_length = length-set l.tasks i _ ∙ sym (length-set l.tasks i _);
        period = same (λ t. t.period) (λ e. refl);
        deadline = same (λ t. t.deadline) (λ e. refl);
        jitter = same (λ t. t.jitter) (λ e. refl);
        sections = same (λ t. t.sections) (λ e. refl);
        execution =
            each_row l.tasks i here _ (λ j t. t.execution ≤ (task_at (rows d) j).execution) (rw (own_row d) h)
            (λ j apart. rw (row_kept l.tasks i here _ j apart) (omega arith));
      }
    where
      as_it_was : {A : Type 0} (f : Task → A) → ((e : ℕ) → f (running (task_at l.tasks i) e) ≡ f (task_at l.tasks i)) → (e j : ℕ)
          → f (task_at (rows e) j) ≡ f (task_at l.tasks j)
      as_it_was f kept e = each_row l.tasks i here _ (λ j t. f t ≡ f (task_at l.tasks j)) (kept e) (λ j apart. refl)

      same : {A : Type 0} (f : Task → A) → ((e : ℕ) → f (running (task_at l.tasks i) e) ≡ f (task_at l.tasks i)) → (j : ℕ)
          → f (task_at (rows c) j) ≡ f (task_at (rows d) j)
      same f kept j = as_it_was f kept c j ∙ sym (as_it_was f kept d j)

  pub execution_eases : (c d : ℕ) → c ≤ d → Eases (problem (with_execution l i c)) (problem (with_execution l i d))
  execution_eases c d h = shorter_eases (shorter c d h) l.rules

  module _ (sound : Sound l) where
    own : InRanges (task_at l.tasks i)
    own = sound.tasks.each i here

    -- a range is not empty
    pub least-le : least_at l i ≤ period_at l i
    least-le = let long = (longest_exactly (task_at l.tasks i) (task_at l.tasks i).execution).1 own.sections in omega (arith, own.execution, own.period, long)

    pub execution_sound : (c : ℕ) → least_at l i ≤ c → c ≤ period_at l i → Sound (with_execution l i c)
    unfolding section_on
    execution_sound c low high =
        changed_sound l sound i here (running (task_at l.tasks i) c)
        (record {
          period = own.period;
          execution = (omega (arith, low), high);
          deadline = own.deadline;
          jitter = own.jitter;
          sections = (longest_exactly (task_at l.tasks i) c).0 (omega (arith, low));
        })

    -- accepted is what it is called
    pub accepts_order : (c : ℕ) → least_at l i ≤ c → c ≤ period_at l i → T (accepts l i c) ↔ Accepted l i c
    accepts_order c low high =
        let order = feasible-order (with_execution l i c) (execution_sound c low high) (first (length l.rules)) in
        let every = first_valid (with_execution l i c) in
        (λ t. let o = order.0 t in (o.0, (every o.0).0 o.1), λ o. order.1 (o.0, (every o.0).1 o.1))

    -- a shorter one is accepted too
    pub accepts_shorter : (c d : ℕ) → least_at l i ≤ c → c ≤ d → d ≤ period_at l i → T (accepts l i d) → T (accepts l i c)
    accepts_shorter c d low h high =
        let lawful_with = λ (e : ℕ) (f : least_at l i ≤ e) (g : e ≤ period_at l i). lawful (with_execution l i e) (execution_sound e f g) in
        feasible_eased (execution_eases c d h) _ _ (λ k g on. on) (lawful_with c low (omega arith)) (lawful_with d (omega arith) high)
