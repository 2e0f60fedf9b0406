-- `Load::demand`: after some of the tasks the sum is the demand of those.
use Rattle.std.proofs.Common.{◌≡◌, take}
use Rattle.response.specs.Load.{load_demand}
use Rattle.response.proofs.load.Load.demand.Given as goal

abbrev pub invariant-loop-j : goal.invariant-loop-j
invariant-loop-j l = l.sum ≡ load_demand l.self.base l.self.tasks.list.now (take l.j-index l.self.kept.now) l.w
