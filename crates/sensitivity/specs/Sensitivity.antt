-- What the answer says of a set that calls make, over the orders that a sceptic writes out: document 02, (e), sentence by sentence,
-- and what was decided beside it. Assumes nothing.
use Rattle.std.specs.Prelude.{Result, Ok, Err, Option, Some, None, ◌≡◌, ◌⊎◌, ◌↔◌, ℕ, ◌≤◌, ◌<◌, length}
use Rattle.taskset.specs.declared.refusals.Refusal.{Refusal}
use Rattle.taskset.specs.declared.refusals.Refusal.TheVariants.{NoSuchTask}
use Rattle.taskset.specs.Model.{Lists, Sound}
use Rattle.assignment.specs.Orders.{every_rule, SomeOrder}
use Rattle.sensitivity.specs.Longest.{with_execution, least_at, period_at}

-- the lists with this execution time in row i have an order that keeps every rule and meets every deadline
abbrev pub Accepted : Lists → ℕ → ℕ → Type 0
Accepted l i c = SomeOrder (with_execution l i c) every_rule

-- c is the greatest accepted one from the floor to the period
pub record IsLongest (l : Lists) (i c : ℕ) : Type 0 where
  pub low : least_at l i ≤ c
  pub high : c ≤ period_at l i
  pub accepted : Accepted l i c
  pub greatest : (x : ℕ) → least_at l i ≤ x → x ≤ period_at l i → Accepted l i x → x ≤ c

pub record Sensitivity (l : Lists) (i : ℕ) (r : Result (Option ℕ) Refusal) : Type 0 where
  -- a place without a task is 11
  pub no_task : (r ≡ Err NoSuchTask) ↔ (length l.tasks ≤ i)
  -- and nothing else is refused
  pub one : (r ≡ Err NoSuchTask) ⊎ (r ≡ Ok None) ⊎ ((c : ℕ) × (r ≡ Ok (Some c)))
  -- each figure from the floor to the period makes lists that adding takes
  pub taken : (x : ℕ) → i < length l.tasks → least_at l i ≤ x → x ≤ period_at l i → Sound (with_execution l i x)
  -- the answer is the greatest execution time, from the floor to the period, with which there is a valid order
  pub longest : (c : ℕ) → i < length l.tasks → (r ≡ Ok (Some c)) ↔ IsLongest l i c
  -- every figure from the floor to the answer is accepted
  pub accepted : (c x : ℕ) → r ≡ Ok (Some c) → least_at l i ≤ x → x ≤ c → Accepted l i x
  -- every one above it up to the period is refused
  pub refused : (c x : ℕ) → r ≡ Ok (Some c) → c < x → x ≤ period_at l i → Accepted l i x → ⊥
  -- none means that the floor is
  pub none : i < length l.tasks → (r ≡ Ok None) ↔ (Accepted l i (least_at l i) → ⊥)
  -- decided: the row's own execution time is not looked at, so the answer is the same whatever stands there
  pub own : (own : ℕ) → i < length l.tasks
      → ((c : ℕ) → (r ≡ Ok (Some c)) ↔ IsLongest (with_execution l i own) i c)
      × ((r ≡ Ok None) ↔ (Accepted (with_execution l i own) i (least_at (with_execution l i own) i) → ⊥))
