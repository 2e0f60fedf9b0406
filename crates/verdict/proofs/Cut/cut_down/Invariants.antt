-- The first k rules were tried. Assumes nothing.
use Rattle.std.proofs.Common.{◌≡◌}
use Rattle.sets.specs.Marks.{marked}
use Rattle.taskset.specs.Views.{lists_of}
use Rattle.assignment.specs.Audsley.{feasible, problem}
use Rattle.verdict.specs.Core.{by_place, cut_of}
use Rattle.verdict.specs.Cut.{Cutting}
use Rattle.verdict.proofs.Cut.cut_down.Given as goal

abbrev pub invariant-loop-k : goal.invariant-loop-k
invariant-loop-k l =
    record {
      so_far : marked l.self.active ≡ cut_of (feasible (problem (lists_of l.system))) by_place (marked l.fn.self.active) l.k;
      cutting : Cutting (problem (lists_of l.system)) l.self;
    }
