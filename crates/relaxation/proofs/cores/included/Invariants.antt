-- The rules of the core below k are kept.
use Rattle.std.proofs.Common.{T, not, ◌&&◌}
use Rattle.sets.specs.Bounded.{all}
use Rattle.sets.specs.Marks.{marked}
use Rattle.relaxation.proofs.cores.included.Given as goal

abbrev pub invariant-loop-k : goal.invariant-loop-k
invariant-loop-k l = T (all l.k (λ k. not (marked l.core k && not (marked l.kept k))))
