-- What demand 3 asks of a verdict on two lists, sentence by sentence: what a reader finds who writes out every order of them.
-- Assumes nothing.
use Rattle.std.specs.Prelude.{Ok, Some, ◌≡◌, Bool, true, false, List, map, ◌⊎◌, ◌↔◌, ℕ, ◌≤◌, ◌<◌, T, length, get_or, take, replicate}
use Rattle.sets.specs.Bounded.{without}
use Rattle.sets.specs.Marks.{marked}
use Rattle.taskset.specs.declared.TaskIndex.{TaskIndex}
use Rattle.taskset.specs.declared.TaskSet.{TaskSet}
use Rattle.taskset.specs.Refusals.{max_tasks, max_rules}
use Rattle.taskset.specs.Model.{Lists, task_at}
use Rattle.taskset.specs.Adding.{is_made, lists}
use Rattle.response.specs.Equation.{SaysResponse}
use Rattle.assignment.specs.Orders.{every_rule, no_rule, hp, ValidOrder, SomeOrder}
use Rattle.assignment.specs.Search.{index}
use Rattle.verdict.specs.declared.Verdict.{Verdict}
use Rattle.verdict.specs.declared.Solved.{Solved}
use Rattle.verdict.specs.declared.Finding.TheVariants.{Order, Core}

-- the order given: the front of the list handed over, as many entries as there are tasks
abbrev pub order_given : Lists → Verdict → List ℕ
order_given l v = map (λ (t : TaskIndex). t.0) (take (length l.tasks) v.order)

-- the core given: the places marked yes
abbrev pub core_given : Verdict → ℕ → Bool
core_given v = marked v.core

pub record Correct (l : Lists) (v : Verdict) : Type 0 where
  -- an order or a core
  pub one : (v.answer ≡ Ok Order) ⊎ (v.answer ≡ Ok Core)
  -- never both: with an order every mark is no, with a core every entry of both lists is 0
  pub order_alone : v.answer ≡ Ok Order → v.core ≡ replicate max_rules false
  pub core_alone : v.answer ≡ Ok Core → (v.order ≡ replicate max_tasks (index 0)) × (v.responses ≡ replicate max_tasks 0)
  -- a core exactly when no order keeps every rule and meets every deadline
  pub refuses : (v.answer ≡ Ok Core) ↔ (SomeOrder l every_rule → ⊥)
  -- an order given is one that does
  pub valid : v.answer ≡ Ok Order → ValidOrder l every_rule (order_given l v)
  -- a core given is a set of the rules
  pub rules : v.answer ≡ Ok Core → (k : ℕ) → T (core_given v k) → k < length l.rules
  -- no order keeps all of it and meets every deadline
  pub clash : v.answer ≡ Ok Core → SomeOrder l (core_given v) → ⊥
  -- with exactly one of its rules left out, whichever, some order does
  pub needed : v.answer ≡ Ok Core → (k : ℕ) → T (core_given v k) → SomeOrder l (without (core_given v) k)
  -- it is empty exactly when no order meets every deadline even with no rules
  pub empty : v.answer ≡ Ok Core → ((k : ℕ) → T (core_given v k) → ⊥) ↔ (SomeOrder l no_rule → ⊥)
  -- and demand 2 for each response handed over: that of the task at its level, with those before it above it
  pub responses : v.answer ≡ Ok Order → (k : ℕ) → k < length l.tasks → let i = get_or (order_given l v) k 0 in
      SaysResponse l.tasks i (hp (order_given l v) i) (task_at l.tasks i).deadline (Some (get_or v.responses k 0))

-- what solving says about a set that calls make and that has a task
unfoldable pub Explains : TaskSet → Solved → Type 0
Explains s r = is_made s ≡ true → 1 ≤ s.ntasks → Correct (lists s) r.verdict
