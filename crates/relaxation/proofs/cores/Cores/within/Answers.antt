-- From the last core down: one that is kept whole, or the next. Assumes nothing.
use Rattle.std.proofs.Common.{sym, arith}
use Rattle.sets.specs.Marks.{marked}
use Rattle.relaxation.specs.Disjoint.{included, core_at}
use Rattle.relaxation.proofs.DisjointSteps.{found_here, found_below, found_none}
use Rattle.relaxation.proofs.cores.Cores.within.Goals as goal

pub returns-then-included : goal.returns-then-included
returns-then-included c =
    found_here (λ k. included c.args.rules.now (core_at c.args.self.now k) (marked c.args.kept.now)) c.loop-i.i _ c.loop-i-test.true
    c.loop-i.invariant.same (sym c.if-included.ensures)

pub loop-i-preserved : goal.loop-i-preserved
loop-i-preserved c =
    record {
      under = omega (arith, c.loop-i.invariant.under);
      same = found_below (λ k. included c.args.rules.now (core_at c.args.self.now k) (marked c.args.kept.now)) c.loop-i.i _
          c.loop-i-test.true c.loop-i.invariant.same (sym c.if-included.ensures);
    }

pub returns : goal.returns
returns c =
    found_none (λ k. included c.args.rules.now (core_at c.args.self.now k) (marked c.args.kept.now)) c.loop-i.i _ c.loop-i-test.false
    c.loop-i.invariant.same
