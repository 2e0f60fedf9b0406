-- `Load::climb_from`: no solution lies below w, which rises with each turn.
use Rattle.std.proofs.Common.{◌+◌, ◌-◌, ◌≤◌}
use Rattle.response.specs.Load.{Bounds}
use Rattle.response.specs.Views.{demand_in}
use Rattle.response.proofs.load.Load.climb_from.Given as goal

abbrev pub invariant-loop-w : goal.invariant-loop-w
invariant-loop-w l = record {
  low : 1 ≤ l.w;
  rounds : l.round ≤ 5;
  bounds : Bounds (demand_in l.self) l.w;
}

abbrev pub decreases-loop-w : goal.decreases-loop-w
decreases-loop-w l = l.room + 1 - l.w
