-- A core is listed where it is apart from those that are. Assumes nothing.
use Rattle.std.proofs.Common.{refl}
use Rattle.relaxation.specs.Disjoint.{listed_with}
use Rattle.relaxation.proofs.cores.DisjointCores.add.Goals as goal

pub returns-then-is_apart : goal.returns-then-is_apart
unfolding listed_with
returns-then-is_apart c = rw (← c.if-is_apart.ensures, c.with_number-self.ensures, c.least_weight.ensures.value) refl

pub returns-else-is_apart : goal.returns-else-is_apart
unfolding listed_with
returns-else-is_apart c = rw (← c.if-is_apart.ensures) refl
