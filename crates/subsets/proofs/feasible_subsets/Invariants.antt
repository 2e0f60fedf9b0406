-- The sets so far are known, and what was found of others is so.
use Rattle.std.proofs.Common.{◌≡◌, length, ℕ, ◌<◌}
use Rattle.sets.specs.Marks.{marked}
use Rattle.sets.specs.Numbered.{numbered}
use Rattle.taskset.specs.Views.{lists_of}
use Rattle.assignment.specs.Audsley.{feasible, problem}
use Rattle.subsets.specs.Subsets.{subsets}
use Rattle.subsets.specs.Found.{RightlyFound}
use Rattle.subsets.proofs.feasible_subsets.Given as goal

abbrev pub invariant-loop-set : goal.invariant-loop-set
invariant-loop-set l =
    record {
      right : RightlyFound (lists_of l.system) l.found;
      long : length l.feasible ≡ subsets;
      known : (c : ℕ) → c < l.set → marked l.feasible c ≡ feasible (problem (lists_of l.system)) (numbered c);
    }
