-- The tasks at the levels so far have their levels.
use Rattle.std.proofs.Common.{◌≡◌, ◌<◌, ℕ, length, get_or}
use Rattle.taskset.specs.Refusals.{max_tasks}
use Rattle.subsets.specs.Found.{order_of}
use Rattle.subsets.proofs.levels.Given as goal

abbrev pub invariant-loop-level : goal.invariant-loop-level
invariant-loop-level l =
    record {
      long : length l.levels ≡ max_tasks;
      placed : (k : ℕ) → k < l.level → get_or l.levels (get_or (order_of l.tasks l.search) k 0) 0 ≡ k;
    }
