-- Every rule of the core is looked at. Assumes nothing.
use Rattle.std.proofs.Common.{sym, not, ◌&&◌, le_antisymm}
use Rattle.sets.specs.Choice.{T→true}
use Rattle.sets.specs.Marks.{marked}
use Rattle.relaxation.specs.Disjoint.{included}
use Rattle.relaxation.proofs.DisjointSteps.{all_none, all_stops, all_goes}
use Rattle.relaxation.proofs.cores.included.Goals as goal

pub loop-k-init : goal.loop-k-init
loop-k-init c = all_none _

pub returns-then-core-k : goal.returns-then-core-k
unfolding included
returns-then-core-k c =
    all_stops _ c.loop-k.k (λ k. marked c.args.core.now k && not (marked c.args.kept.now k)) c.loop-k-test.true c.if-core-k.true

pub loop-k-preserved : goal.loop-k-preserved
loop-k-preserved c =
    all_goes c.loop-k.k (λ k. marked c.args.core.now k && not (marked c.args.kept.now k)) c.if-core-k.false c.loop-k.invariant

pub returns : goal.returns
unfolding included
returns c = rw (le_antisymm c.loop-k-test.false c.loop-k.auto.k-end) (sym (T→true _ c.loop-k.invariant))
