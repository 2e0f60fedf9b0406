-- `Candidate::start`: after some of the tasks the sum is the demand at 1 of those.
use Rattle.response.proofs.GatherLaws.{StartsWith}
use Rattle.response.specs.Views.{tasks_of, above_of}
use Rattle.response.proofs.candidate.Candidate.start.Given as goal

abbrev pub invariant-loop-j : goal.invariant-loop-j
invariant-loop-j l = StartsWith (tasks_of l.self) l.self.task.0 (above_of l.self) l.j l.sum
