-- `Candidate::step`: it goes no further than the room, and no less far than from where it begins.
use Rattle.std.proofs.Common.{◌≤◌}
use Rattle.response.proofs.candidate.Candidate.step.Given as goal

abbrev pub invariant-loop-j : goal.invariant-loop-j
invariant-loop-j l = (l.from ≤ l.reach) × (l.reach ≤ l.room)
