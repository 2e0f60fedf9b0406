-- The first i cores are looked at.
use Rattle.std.proofs.Common.{◌≡◌}
use Rattle.sets.specs.Marks.{marked}
use Rattle.relaxation.specs.Disjoint.{listed_in}
use Rattle.relaxation.proofs.cores.Cores.listed_in.Given as goal

abbrev pub invariant-loop-i : goal.invariant-loop-i
invariant-loop-i l = l.listed ≡ listed_in l.rules l.self.sets (marked l.kept) l.i
