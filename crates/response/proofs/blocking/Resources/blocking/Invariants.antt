-- `response::blocking::Resources::blocking`: it is that on the resources so far.
use Rattle.std.proofs.Common.{◌≡◌}
use Rattle.response.proofs.ResourcesLaws.{blocking_to}
use Rattle.response.proofs.blocking.Resources.blocking.Given as goal

abbrev pub invariant-loop-kept : goal.invariant-loop-kept
invariant-loop-kept l = l.blocking ≡ blocking_to l.self.usage l.kept-index
