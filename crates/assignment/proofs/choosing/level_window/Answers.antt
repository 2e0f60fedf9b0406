-- The one with the most room has the window of all. Assumes nothing.
use Rattle.std.proofs.Common.{refl, ◌∙◌, arith}
use Rattle.sets.specs.Marks.{marked}
use Rattle.assignment.proofs.LevelLaws.{roomiest_none, roomiest_more, roomiest_same, level_none, roomiest_inside, roomiest_blocked, roomiest_short, roomiest_bounds, level_roomiest}
use Rattle.assignment.proofs.choosing.level_window.Goals as goal
use Rattle.assignment.proofs.choosing.level_window.Goals.{then-these-j, else-these-j}

pub loop-j-init : goal.loop-j-init
loop-j-init c = roomiest_none c.args.tasks.list.now (marked c.args.these.now) c.args.known 0

pub loop-j-preserved : goal.loop-j-preserved
loop-j-preserved c =
    let at = c.loop-j in
    elim c.if-these-j.branch [
      | then-these-j w ↦ rw (w.most-is, w.roomiest-is) (roomiest_more _ _ _ at.j at.roomiest.0 at.most at.invariant _ c.room-room.ensures w.if-these-j.true)
      | else-these-j w ↦ rw (w.most-is, w.roomiest-is) (roomiest_same _ _ _ at.j at.roomiest.0 at.most at.invariant _ c.room-room.ensures w.if-these-j.false)
    ]

pub returns-then-most-known : goal.returns-then-most-known
returns-then-most-known c =
    let at = c.loop-j in
    level_none _ _ _ _ at.j at.roomiest.0 at.most (omega arith) c.requires.windowless at.invariant c.if-most-known.true

pub candidate-requires-clause-task_in_bounds : goal.candidate-requires-clause-task_in_bounds
candidate-requires-clause-task_in_bounds c =
    roomiest_inside _ c.args.tasks.sound _ _ c.requires.are_left _ c.requires.blocked _ _ _ _ (omega arith) c.loop-j.invariant
    (omega (arith, c.loop-j.invariant.more))

pub candidate-requires-clause-blocking_value : goal.candidate-requires-clause-blocking_value
candidate-requires-clause-blocking_value c =
    roomiest_blocked _ c.args.tasks.sound _ _ c.requires.are_left _ c.requires.blocked _ _ _ _ (omega arith) c.loop-j.invariant
    (omega (arith, c.loop-j.invariant.more))

pub window_above-requires-clause-room_le_max_period : goal.window_above-requires-clause-room_le_max_period
window_above-requires-clause-room_le_max_period c =
    roomiest_short _ c.args.tasks.sound _ _ c.requires.are_left _ c.requires.blocked _ _ _ _ (omega arith) c.loop-j.invariant
    (omega (arith, c.loop-j.invariant.more))

pub window_above-requires-clause-bounds : goal.window_above-requires-clause-bounds
window_above-requires-clause-bounds c =
    let is = c.candidate.ensures in
    rw (is.tasks, is.task, is.above)
    (roomiest_bounds _ c.args.tasks.sound _ _ c.requires.are_left _ c.requires.blocked _ _ _ _ (omega arith) c.loop-j.invariant
    (omega (arith, c.loop-j.invariant.more)) c.requires.windowless)

pub returns : goal.returns
returns c =
    let is = c.candidate.ensures in
    level_roomiest _ c.args.tasks.sound _ _ c.requires.are_left _ c.requires.blocked _ _ _ _ (omega arith) c.loop-j.invariant
    (omega (arith, c.loop-j.invariant.more)) _ (c.window_above.ensures ∙ rw (is.tasks, is.task, is.above) refl)
