-- A turn's task is marked where it is left and passes. Assumes nothing.
use Rattle.std.proofs.Common.{sym, refl, arith, ap, ◌∙◌, is_some, length-set}
use Rattle.sets.specs.Choice.{true→T}
use Rattle.sets.specs.Marks.{marked}
use Rattle.taskset.specs.Refusals.{max_tasks}
use Rattle.assignment.specs.Hints.{known_none, known_more}
use Rattle.assignment.proofs.choosing.passing.Goals as goal
use Rattle.assignment.proofs.choosing.passing.Goals.{then-left-j, else-left-j}

pub loop-j-init : goal.loop-j-init
loop-j-init c = record { long = refl; known = known_none _ max_tasks _ }

pub loop-j-preserved : goal.loop-j-preserved
loop-j-preserved c =
    let at = c.loop-j in
    elim c.if-left-j.branch [
      | then-left-j w ↦
          let same = c.level_window-window.ensures at.j (omega arith) (true→T (marked c.args.left.now at.j) w.if-left-j.true) in
          rw w.known-is
          (record {
            long = length-set at.known _ _ ∙ at.invariant.long;
            known = known_more _ _ at.known at.j (omega arith) _ (w.is_some.ensures ∙ ap is_some (w.met.ensures ∙ sym same)) at.invariant.known;
          })
      | else-left-j w ↦ rw w.known-is at.invariant
    ]
