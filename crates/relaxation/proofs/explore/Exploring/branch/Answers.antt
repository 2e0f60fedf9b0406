-- The frontier is branched, and if it got full no more is looked at. Assumes nothing.
use Rattle.std.proofs.Common.{refl}
use Rattle.relaxation.specs.Exploring.{branching}
use Rattle.relaxation.proofs.explore.Exploring.branch.Goals as goal

pub returns-clause-value : goal.returns-clause-value
unfolding branching
returns-clause-value c = rw c.branch-self.ensures.value refl
