-- `Candidate::start` meets its contract: with each turn the sum has one task more.
use Rattle.std.proofs.Common.{arith}
use Rattle.response.proofs.GatherLaws.{own_fits, starts_none, starts_skipped, starts_more, starts_all}
use Rattle.response.proofs.candidate.Candidate.start.Goals as goal
use Rattle.response.proofs.candidate.Candidate.start.Goals.{then-self-j, else-self-j}

pub overflow_add-sum : goal.overflow_add-sum
overflow_add-sum c = let s = c.args.self.now in omega (arith, own_fits s.tasks.sound s.inside _ s.blocked)

pub loop-j-init : goal.loop-j-init
loop-j-init c = let s = c.args.self.now in starts_none s.tasks.sound s.inside s.blocked

pub loop-j-preserved : goal.loop-j-preserved
loop-j-preserved c =
    let sound = c.args.self.now.tasks.sound in
    let so_far = c.loop-j.invariant in
    elim c.if-self-j.branch [
      | then-self-j w ↦ rw w.sum-is (starts_more sound so_far (omega arith) w.if-self-j.true)
      | else-self-j w ↦ rw w.sum-is (starts_skipped sound so_far w.if-self-j.false)
    ]

pub returns : goal.returns
returns c = starts_all c.args.self.now.tasks.sound c.loop-j.invariant (omega arith)
