-- A set costs least so far where it costs no more than the one found before. Assumes nothing.
use Rattle.std.proofs.Common.{ap, ◌∙◌, true, false, arith, le_antisymm, le-leb}
use Rattle.std.proofs.lemmas.Bool.{lt-leb}
use Rattle.relaxation.specs.Frontier.{foremost}
use Rattle.relaxation.proofs.FrontierSteps.{foremost_none, foremost_turn}
use Rattle.relaxation.proofs.frontier.Frontier.foremost.Goals as goal
use Rattle.relaxation.proofs.frontier.Frontier.foremost.Goals.{then-self-i, else-self-i}

pub loop-i-init : goal.loop-i-init
loop-i-init c = record { found = foremost_none c.args.self.now; in_bounds = omega arith }

pub loop-i-preserved : goal.loop-i-preserved
loop-i-preserved c =
    let at = c.loop-i in
    let i = at.invariant in
    elim c.if-self-i.branch [
      | then-self-i w ↦
          rw w.found-is
          (record {
            found = foremost_turn _ at.i at.found i.found true (le-leb _ _ w.if-self-i.true);
            in_bounds = omega (arith, c.loop-i-test.true, c.requires);
          })
      | else-self-i w ↦
          rw w.found-is
          (record { found = foremost_turn _ at.i at.found i.found false (lt-leb _ _ w.if-self-i.false); in_bounds = i.in_bounds })
    ]

pub returns-clause-value : goal.returns-clause-value
returns-clause-value c = c.loop-i.invariant.found ∙ ap (foremost c.args.self.now) (le_antisymm c.loop-i.auto.i-end c.loop-i-test.false)
