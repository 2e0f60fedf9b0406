-- None of the rules so far rules the set out.
use Rattle.std.proofs.Common.{ℕ, ◌<◌}
use Rattle.std.specs.Prelude.{T}
use Rattle.sets.specs.Marks.{marked}
use Rattle.subsets.specs.Subsets.{fails_without}
use Rattle.subsets.proofs.is_ruled_out.Given as goal

abbrev pub invariant-loop-k : goal.invariant-loop-k
invariant-loop-k l = (j : ℕ) → j < l.k → T (fails_without (marked l.feasible) l.set j) → ⊥
