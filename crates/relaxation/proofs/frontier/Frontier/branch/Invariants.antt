-- The set without each of the core's rules before k is looked at.
use Rattle.std.proofs.Common.{◌≡◌}
use Rattle.sets.specs.Marks.{marked}
use Rattle.relaxation.specs.Frontier.{branched, FewOpen}
use Rattle.relaxation.proofs.frontier.Frontier.branch.Given as goal

abbrev pub invariant-loop-k : goal.invariant-loop-k
invariant-loop-k l =
    record {
      value : l.self ≡ branched l.system.rules.now l.cores l.limit l.set (marked l.core) l.fn.self l.k;
      few : FewOpen l.self;
    }
