-- A task that is tried and late leaves no window in its room, and one that is not tried is late. Assumes nothing.
use Rattle.std.proofs.Common.{◌≡◌, None, ◌-◌, arith, subst, sym, ◌∙◌}
use Rattle.sets.specs.Marks.{marked}
use Rattle.assignment.specs.Ready.{greatest_late}
use Rattle.assignment.specs.LevelWindow.{Windowless}
use Rattle.assignment.specs.Views.{candidates_at}
use Rattle.assignment.proofs.LevelLaws.{tried_windowless, short_may_not}
use Rattle.assignment.proofs.level.OpenLevel.choose.Goals as goal

pub loop-i-preserved-then-room-known : goal.loop-i-preserved-then-room-known
loop-i-preserved-then-room-known c =
    let at = c.loop-i in
    record {
      few = at.invariant.few;
      late =
          greatest_late _ _ at.i (omega arith) at.invariant.late
          (short_may_not c.args.self.now (at.i - 1) (omega arith) c.if-not-self-i.false at.known at.invariant.windowless
          (omega (arith, c.room-room.ensures)));
      windowless = at.invariant.windowless;
    }

pub loop-i-preserved : goal.loop-i-preserved
loop-i-preserved c =
    let at = c.loop-i in
    let l = c.args.self.now in
    let late : candidates_at l (at.i - 1) ≡ None = sym c.response.ensures ∙ c.in_default.is in
    record {
      few = omega arith;
      late = greatest_late _ _ at.i (omega arith) at.invariant.late late;
      windowless =
          subst (Windowless l.tasks.list.now (marked l.ready.now) (marked l.left.now)) (sym c.room-room.ensures)
          (tried_windowless l (at.i - 1) (omega arith) c.if-not-self-i.false late);
    }
