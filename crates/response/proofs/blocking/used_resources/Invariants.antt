-- `response::blocking::used_resources`: no task uses a resource from this one on.
use Rattle.response.specs.Resources.{UnusedFrom}
use Rattle.response.proofs.blocking.used_resources.Given as goal

abbrev pub invariant-loop-resource : goal.invariant-loop-resource
invariant-loop-resource l = UnusedFrom l.tasks l.resource
