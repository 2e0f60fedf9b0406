-- `response::blocking::usage_on`: it is that of the tasks so far.
use Rattle.std.proofs.Common.{length}
use Rattle.sets.specs.Marks.{marked}
use Rattle.response.proofs.ResourcesLaws.{UsageTo}
use Rattle.response.proofs.blocking.usage_on.Given as goal

abbrev pub invariant-loop-t : goal.invariant-loop-t
invariant-loop-t l = UsageTo l.tasks (marked l.left) l.resource (length l.yielded) l.usage
