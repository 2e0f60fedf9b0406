-- `response::blocking::used_resources` meets its contract: a turn leaves one resource more that no task uses.
use Rattle.std.proofs.Common.{sym, ◌∙◌, arith}
use Rattle.response.proofs.ResourcesLaws.{unused_next}
use Rattle.response.proofs.blocking.used_resources.Goals as goal

pub loop-resource-preserved : goal.loop-resource-preserved
loop-resource-preserved c =
    unused_next c.args.tasks.now c.loop-resource.resource c.loop-resource.invariant (omega arith) (sym c.is_used.ensures ∙ c.if-is_used.false)
