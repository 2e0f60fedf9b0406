-- Rule after rule, what an order keeps, and what was found of the sets is so.
use Rattle.taskset.specs.Views.{lists_of}
use Rattle.subsets.specs.Found.{Grown, RightlyFound}
use Rattle.subsets.proofs.Found.grown.Given as goal

abbrev pub invariant-loop-k : goal.invariant-loop-k
invariant-loop-k l =
    record {
      grown : Grown (lists_of l.system) l.set l.kept;
      right : RightlyFound (lists_of l.system) l.self;
    }
