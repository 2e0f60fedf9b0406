-- After some calls the set is the one that they make. Assumes nothing.
use Rattle.std.proofs.Common.{◌≡◌, take}
use Rattle.taskset.specs.Adding.{fresh_set, run}
use Rattle.replay.proofs.replay.Given as goal

abbrev pub invariant-loop-call : goal.invariant-loop-call
invariant-loop-call l = l.set ≡ run fresh_set (take l.call-index l.calls)
