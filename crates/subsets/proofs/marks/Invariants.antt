-- After some rules, the members of the set among them.
use Rattle.std.proofs.Common.{◌≡◌, length}
use Rattle.sets.specs.Marks.{marked}
use Rattle.taskset.specs.Refusals.{max_rules}
use Rattle.subsets.proofs.MarksLaws.{members_below}
use Rattle.subsets.proofs.marks.Given as goal

abbrev pub invariant-loop-k : goal.invariant-loop-k
invariant-loop-k l =
    record {
      long : length l.marks ≡ max_rules;
      members : marked l.marks ≡ members_below l.k l.set;
    }
