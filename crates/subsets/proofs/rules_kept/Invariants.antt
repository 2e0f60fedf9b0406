-- Of the rules so far, those that the order keeps.
use Rattle.std.proofs.Common.{◌≡◌, length}
use Rattle.sets.specs.Numbered.{number_of}
use Rattle.subsets.specs.Found.{order_of, keeping}
use Rattle.subsets.proofs.rules_kept.Given as goal

abbrev pub invariant-loop-k : goal.invariant-loop-k
invariant-loop-k l = l.set ≡ number_of l.k (keeping l.system.rules.now (order_of (length l.system.tasks.now) l.search))
