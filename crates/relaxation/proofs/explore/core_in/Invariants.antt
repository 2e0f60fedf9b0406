-- The lightest n rules were tried.
use Rattle.std.proofs.Common.{◌≡◌}
use Rattle.sets.specs.Marks.{marked}
use Rattle.taskset.specs.Views.{lists_of}
use Rattle.assignment.specs.Audsley.{feasible, problem}
use Rattle.verdict.specs.Core.{cut_of}
use Rattle.verdict.specs.Cut.{Cutting}
use Rattle.relaxation.specs.Turns.{light_first}
use Rattle.relaxation.proofs.explore.core_in.Given as goal

abbrev pub invariant-loop-n : goal.invariant-loop-n
invariant-loop-n l =
    record {
      so_far : marked l.cut.active ≡ cut_of (feasible (problem (lists_of l.system))) (light_first l.system.rules.now) (marked l.kept) l.n;
      cutting : Cutting (problem (lists_of l.system)) l.cut;
    }
