-- What document 02 asks of a verdict in (a), one order for one sheet: which of the valid orders is given. What a refusal means is
-- demand 3's still (`Correct`). Assumes nothing.
use Rattle.std.specs.Prelude.{Ok, ◌≡◌, List, ℕ}
use Rattle.taskset.specs.Model.{Lists}
use Rattle.assignment.specs.Orders.{every_rule}
use Rattle.assignment.specs.Canonical.{CanonicalOrder, GreatestOrder}
use Rattle.verdict.specs.declared.Verdict.{Verdict}
use Rattle.verdict.specs.declared.Finding.TheVariants.{Order}
use Rattle.verdict.specs.Correct.{order_given}

pub record OneOrder (l : Lists) (v : Verdict) : Type 0 where
  -- levels are filled from the lowest upward; of the tasks that may take the level and meet their deadline with every task still
  -- without a level above them, the one with the greatest place takes it
  pub canonical : v.answer ≡ Ok Order → CanonicalOrder l every_rule (order_given l v)
  -- no other order is filled so
  pub only : v.answer ≡ Ok Order → (order : List ℕ) → CanonicalOrder l every_rule order → order ≡ order_given l v
  -- of all valid orders it is the greatest, read from the lowest level up
  pub greatest : v.answer ≡ Ok Order → GreatestOrder l every_rule (order_given l v)
