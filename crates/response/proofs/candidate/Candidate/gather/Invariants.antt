-- `Candidate::gather`: after some of the tasks the base and what is kept stand for those.
use Rattle.response.proofs.GatherLaws.{GatheredTo}
use Rattle.response.specs.Views.{tasks_of, above_of}
use Rattle.response.proofs.candidate.Candidate.gather.Given as goal

abbrev pub invariant-loop-j : goal.invariant-loop-j
invariant-loop-j l = GatheredTo (tasks_of l.self) l.self.task.0 (above_of l.self) l.room l.j l.base l.start l.count l.kept
