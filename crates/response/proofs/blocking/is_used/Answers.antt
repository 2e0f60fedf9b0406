-- `response::blocking::is_used` meets its contract: what the search over the list answers, it answers over the indices.
use Rattle.std.proofs.Common.{◌∙◌, rules, tests}
use Rattle.std.proofs.lemmas.Iterator.{YieldsList-from_slice}
use Rattle.std.proofs.lemmas.Iterator.Search.{any_from_yields_List}
use Rattle.sets.specs.Bounded.{list_any-any}
use Rattle.taskset.specs.Model.{no_task}
use Rattle.response.specs.Blocking.{uses}
use Rattle.response.proofs.blocking.is_used.Goals as goal

pub returns : goal.returns
returns c =
    let tasks = c.args.tasks.now in
    any_from_yields_List (λ t. uses t c.args.resource) _ _ _ c.any.ensures.ran (YieldsList-from_slice tasks cc) (λ x b q k. search (rules, tests))
    ∙ list_any-any (λ t. uses t c.args.resource) tasks no_task
