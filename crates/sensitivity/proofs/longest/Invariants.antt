-- What is open is halved in each round.
use Rattle.std.proofs.Common.{◌-◌, ◌^◌, ◌≤◌}
use Rattle.taskset.specs.Views.{lists_of}
use Rattle.sensitivity.specs.Halving.{rounds, Halves}
use Rattle.sensitivity.proofs.longest.Given as goal

abbrev pub invariant-loop : goal.invariant-loop
invariant-loop l =
    record {
      halves : Halves (lists_of l.system) l.task.0 l.halving;
      narrow : l.halving.refused - l.halving.accepted ≤ 2 ^ (rounds - l.counter);
    }
