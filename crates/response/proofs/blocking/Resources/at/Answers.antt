-- `response::blocking::Resources::at` meets its contract: from the used resources on there is nothing to keep.
use Rattle.std.proofs.Common.{◌≡◌, ◌∙◌, length, replicate, arith, length-take-le}
use Rattle.sets.specs.Marks.{marked}
use Rattle.taskset.specs.Refusals.{resources}
use Rattle.response.proofs.ResourcesLaws.{tracks_at}
use Rattle.response.proofs.blocking.Resources.at.Goals as goal

pub returns : goal.returns
returns c =
    let used = c.used_resources-used.ensures in
    let cut : length c.loop-k.kept-items ≡ c.used_resources-used.result =
    c.loop-k.auto.kept-items ∙ length-take-le c.used_resources-used.result (replicate resources c.default-all.result) used.upper_bound in
    tracks_at c.args.tasks.now (marked c.args.left.now) c.used_resources-used.result c.loop-k.kept-items used.upper_bound used.unused
    c.default-all.ensures cut (λ k l. c.loop-k.invariant k (omega arith))
