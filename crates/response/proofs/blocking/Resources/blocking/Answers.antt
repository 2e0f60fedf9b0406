-- `response::blocking::Resources::blocking` meets its contract: a turn takes one resource more, and at the end it is every used one.
use Rattle.std.proofs.Common.{◌≡◌, ◌∙◌, sym, get_or, take, arith, length-take-le}
use Rattle.std.proofs.lemmas.List.{get_or-take}
use Rattle.sets.specs.Maximum.{maximum-none}
use Rattle.response.specs.Resources.{no_usage}
use Rattle.response.proofs.ResourcesLaws.{blocking_used, blocking_unused, blocking_whole}
use Rattle.response.proofs.blocking.Resources.blocking.Goals as goal

pub loop-kept-init : goal.loop-kept-init
loop-kept-init c = sym (maximum-none _ _)

pub loop-kept-preserved : goal.loop-kept-preserved
loop-kept-preserved c =
    let r = c.args.self.now in
    let n = c.loop-kept.kept-index in
    let long = length-take-le r.used r.usage (omega arith) in
    let at : get_or (take r.used r.usage) n no_usage ≡ get_or r.usage n no_usage = get_or-take r.used r.usage n no_usage (omega arith) in
    let used = blocking_used r.usage n c.loop-kept.invariant at in
    let unused = blocking_unused r.usage n c.loop-kept.invariant at in
    grind arith

pub returns : goal.returns
returns c =
    let r = c.args.self.now in
    let whole : c.loop-kept.kept-index ≡ r.used = omega (arith, length-take-le r.used r.usage (omega arith)) in
    rw whole at c.loop-kept.invariant ∙ blocking_whole r
