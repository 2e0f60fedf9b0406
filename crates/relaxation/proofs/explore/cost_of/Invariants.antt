-- The cost of the rules before k.
use Rattle.std.proofs.Common.{◌≡◌}
use Rattle.sets.specs.Sum.{sum}
use Rattle.sets.specs.Bounded.{others}
use Rattle.sets.specs.Marks.{marked}
use Rattle.relaxation.specs.Weights.{weight_at}
use Rattle.relaxation.proofs.explore.cost_of.Given as goal

abbrev pub invariant-loop-k : goal.invariant-loop-k
invariant-loop-k l = l.cost ≡ sum l.k (others (marked l.kept)) (weight_at l.system.rules.now)
