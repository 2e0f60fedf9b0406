-- A core is remembered, if there is room. Assumes nothing.
use Rattle.std.proofs.Common.{refl, lt-ltb, le-ltb}
use Rattle.relaxation.specs.Disjoint.{remembered}
use Rattle.relaxation.proofs.cores.Cores.add.Goals as goal

pub returns-then-self-lt-MAX_REMEMBERED-clause-value : goal.returns-then-self-lt-MAX_REMEMBERED-clause-value
unfolding remembered
returns-then-self-lt-MAX_REMEMBERED-clause-value c = rw (lt-ltb _ _ c.if-self-lt-MAX_REMEMBERED.true) refl

pub returns-else-self-lt-MAX_REMEMBERED-clause-value : goal.returns-else-self-lt-MAX_REMEMBERED-clause-value
unfolding remembered
returns-else-self-lt-MAX_REMEMBERED-clause-value c = rw (le-ltb _ _ c.if-self-lt-MAX_REMEMBERED.false) refl
