-- After some rules, the tasks that those leave ready.
use Rattle.std.proofs.Common.{◌≡◌, length}
use Rattle.sets.specs.Marks.{marked}
use Rattle.taskset.specs.Refusals.{max_tasks}
use Rattle.assignment.specs.Ready.{ready_by}
use Rattle.assignment.proofs.ready.Given as goal

abbrev pub invariant-loop-k : goal.invariant-loop-k
invariant-loop-k l =
    record {
      long : length l.ready ≡ max_tasks;
      left_ready : marked l.ready ≡ ready_by l.k l.rules (marked l.active) (marked l.left);
    }
