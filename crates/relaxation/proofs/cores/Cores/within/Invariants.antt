-- Of the cores from i on none is kept whole.
use Rattle.std.proofs.Common.{◌≡◌, ◌≤◌}
use Rattle.sets.specs.Bounded.{greatest}
use Rattle.sets.specs.Marks.{marked}
use Rattle.relaxation.specs.Disjoint.{included, core_at}
use Rattle.relaxation.proofs.cores.Cores.within.Given as goal

abbrev pub invariant-loop-i : goal.invariant-loop-i
invariant-loop-i l =
    record {
      under : l.i ≤ l.self.n;
      same : greatest l.self.n (λ k. included l.rules (core_at l.self k) (marked l.kept))
          ≡ greatest l.i (λ k. included l.rules (core_at l.self k) (marked l.kept));
    }

abbrev pub decreases-loop-i : goal.decreases-loop-i
decreases-loop-i l = l.i
