-- The rounds suffice, since two to their number is more than the range. Assumes nothing.
use Rattle.std.proofs.Common.{◌+◌, ◌-◌, arith}
use Rattle.std.proofs.Math.Nat.{one-le-pow}
use Rattle.taskset.specs.Views.{lists_of}
use Rattle.sensitivity.specs.Halving.{rounds}
use Rattle.sensitivity.proofs.HalvingLaws.{halved, halved_end, halved_some, halved_none}
use Rattle.sensitivity.proofs.longest.Goals as goal
use Rattle.sensitivity.proofs.longest.Goals.{then-halving, else-halving}

pub loop-preserved : goal.loop-preserved
loop-preserved c =
    let at = c.loop in
    elim c.if-halving.branch [
      | then-halving w ↦
          rw w.halving-is
          (record {
            halves = w.try_middle.ensures.halves;
            narrow = halved rounds at.counter _ _ (omega (arith, c.loop-test.true)) at.invariant.narrow w.try_middle.ensures.narrower;
          })
      | else-halving w ↦
          let some = one-le-pow (rounds - (at.counter + 1)) 2 (omega arith) in
          rw w.halving-is (record { halves = at.invariant.halves; narrow = omega (arith, some, w.if-halving.false) })
    ]

pub returns-then-halving-least_execution : goal.returns-then-halving-least_execution
returns-then-halving-least_execution c =
    let at = c.loop in
    let end = halved_end rounds at.counter _ (omega (arith, c.loop-test.false)) at.invariant.narrow in
    halved_none (lists_of c.args.system) c.args.system.sound _ c.requires at.halving at.invariant.halves (omega (arith, end))
    (omega (arith, c.least_execution.ensures, c.if-halving-least_execution.true))

pub returns : goal.returns
returns c =
    let at = c.loop in
    let end = halved_end rounds at.counter _ (omega (arith, c.loop-test.false)) at.invariant.narrow in
    halved_some (lists_of c.args.system) c.args.system.sound _ c.requires at.halving at.invariant.halves (omega (arith, end))
    (omega (arith, c.least_execution.ensures, c.if-halving-least_execution.false))
