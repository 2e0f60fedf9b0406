-- The set of all rules in every place, and what it costs to give up what was not put back. Assumes nothing.
use Rattle.std.proofs.Common.{refl}
use Rattle.relaxation.proofs.explore.Exploring.start.Goals as goal

pub returns-clause-value : goal.returns-clause-value
returns-clause-value c = rw (c.every.ensures, c.cost_of.ensures.value) refl
