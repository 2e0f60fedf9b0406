-- What a caller has who is handed a listing: its bytes, and what holds of the verdict in it. Assumes nothing.
use Rattle.std.specs.Prelude.{◌≡◌, List, ℕ, length}
use Rattle.sets.specs.Onto.{onto}
use Rattle.taskset.specs.Model.{Lists}
use Rattle.verdict.specs.declared.Verdict.{Verdict}
use Rattle.verdict.specs.Correct.{Correct}
use Rattle.verdict.specs.OneOrder.{OneOrder}
use Rattle.listing.specs.Listing.{late_for, listing}
use Rattle.listing.specs.LateLines.{LateLines}

-- so many bytes, in a buffer that was so and is so now
pub record Gives (l : Lists) (v : Verdict) (count : ℕ) (was is : List ℕ) : Type 0 where
  -- the listing of the verdict, whole, and the other bytes as they were
  pub size : count ≡ length (listing l v)
  pub bytes : is ≡ onto (listing l v) was
  -- demand 3
  pub correct : Correct l v
  -- document 02, (a)
  pub one_order : OneOrder l v
  -- document 02, (b)
  pub late : LateLines l v (late_for l v.answer)
