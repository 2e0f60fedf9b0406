-- `Candidate::gather` meets its contract: with each turn the load stands for one task more.
use Rattle.std.proofs.Common.{arith}
use Rattle.response.proofs.GatherLaws.{own_fits, gathered_none, gathered_skipped, gathered_once, gathered_kept, gathered_all}
use Rattle.response.proofs.candidate.Candidate.gather.Goals as goal
use Rattle.response.proofs.candidate.Candidate.gather.Goals.{then-self-j+then-room-t, then-self-j+else-room-t, else-self-j}

pub overflow_add-base : goal.overflow_add-base
overflow_add-base c = let s = c.args.self.now in omega (arith, own_fits s.tasks.sound s.inside _ s.blocked)

pub loop-j-init : goal.loop-j-init
loop-j-init c = let s = c.args.self.now in gathered_none s.tasks.sound s.inside s.blocked

pub loop-j-preserved : goal.loop-j-preserved
loop-j-preserved c =
    let sound = c.args.self.now.tasks.sound in
    let so_far = c.loop-j.invariant in
    elim c.if-self-j.branch [
      | then-self-j+then-room-t w ↦ rw (w.kept-is, w.base-is, w.start-is, w.count-is)
          (gathered_once sound so_far (omega arith) w.if-self-j.true (omega (arith, w.if-room-t.true)))
      | then-self-j+else-room-t w ↦ rw (w.kept-is, w.base-is, w.start-is, w.count-is)
          (gathered_kept sound so_far (omega arith) w.if-self-j.true (omega arith))
      | else-self-j w ↦ rw (w.kept-is, w.base-is, w.start-is, w.count-is)
          (gathered_skipped sound so_far w.if-self-j.false)
    ]

pub returns-clause-stands : goal.returns-clause-stands
returns-clause-stands c = gathered_all c.args.self.now.tasks.sound c.loop-j.invariant (omega arith)
