-- One set more is solved, if the budget lasts. Assumes nothing.
use Rattle.std.proofs.Common.{refl, lt-ltb, le-ltb}
use Rattle.relaxation.specs.Restoring.{put_back}
use Rattle.relaxation.proofs.restore.Restoring.put_back.Goals as goal

pub returns-then-is_feasible : goal.returns-then-is_feasible
unfolding put_back
returns-then-is_feasible c = rw (lt-ltb _ _ c.if-self-budget.true, ← c.if-is_feasible.ensures) refl

pub returns-else-is_feasible : goal.returns-else-is_feasible
unfolding put_back
returns-else-is_feasible c = rw (lt-ltb _ _ c.if-self-budget.true, ← c.if-is_feasible.ensures) refl

pub returns-else-self-budget : goal.returns-else-self-budget
unfolding put_back
returns-else-self-budget c = rw (le-ltb _ _ c.if-self-budget.false) refl
