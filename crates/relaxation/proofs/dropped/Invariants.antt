-- The rules before k that are not kept are marked.
use Rattle.std.proofs.Common.{◌≡◌, length}
use Rattle.sets.specs.Marks.{marked}
use Rattle.taskset.specs.Refusals.{max_rules}
use Rattle.relaxation.proofs.DroppedSteps.{first_others}
use Rattle.relaxation.proofs.dropped.Given as goal

abbrev pub invariant-loop-k : goal.invariant-loop-k
invariant-loop-k l = record { long : length l.dropped ≡ max_rules; marks : marked l.dropped ≡ first_others (marked l.kept) l.k }
