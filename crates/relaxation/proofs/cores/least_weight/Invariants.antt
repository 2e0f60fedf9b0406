-- The least weight among the rules before k.
use Rattle.std.proofs.Common.{◌≡◌}
use Rattle.sets.specs.Marks.{marked}
use Rattle.relaxation.specs.Weights.{least_weight}
use Rattle.relaxation.proofs.cores.least_weight.Given as goal

abbrev pub invariant-loop-k : goal.invariant-loop-k
invariant-loop-k l = l.least ≡ least_weight l.rules l.k (marked l.these)
