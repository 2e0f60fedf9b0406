-- What a trial's answer says of a set that calls make, over the orders that a sceptic writes out: the sentence of document 02, (d),
-- and what was decided beside it. Assumes nothing.
use Rattle.std.specs.Prelude.{Result, Ok, ◌≡◌, Bool, true, false, ◌⊎◌, ◌↔◌, ℕ, ◌<◌, length}
use Rattle.taskset.specs.declared.refusals.Refusal.{Refusal}
use Rattle.taskset.specs.Model.{Lists}
use Rattle.assignment.specs.Orders.{SomeOrder}

pub record Decides (l : Lists) (active : ℕ → Bool) (r : Result Bool Refusal) : Type 0 where
  -- for any marks it answers: yes or no, and no refusal
  pub one : (r ≡ Ok true) ⊎ (r ≡ Ok false)
  -- yes exactly when some order keeps every marked rule and meets every deadline
  pub yes : (r ≡ Ok true) ↔ SomeOrder l active
  -- decided: marks at places without a rule are ignored, so the answer is that for any marks which are the same at the rules
  pub unused : (other : ℕ → Bool) → ((k : ℕ) → k < length l.rules → other k ≡ active k) → (r ≡ Ok true) ↔ SomeOrder l other
  -- decided: a set without tasks gets yes, since its one order is the empty one
  pub empty : length l.tasks ≡ 0 → r ≡ Ok true
