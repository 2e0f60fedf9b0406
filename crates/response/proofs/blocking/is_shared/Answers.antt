-- `response::blocking::is_shared` meets its contract: where no task uses a resource, none is used from the first on.
use Rattle.std.proofs.Common.{◌∙◌, sym, not, rules, tests}
use Rattle.std.proofs.lemmas.Iterator.{YieldsList-from_slice}
use Rattle.std.proofs.lemmas.Iterator.Search.{any_from_yields_List}
use Rattle.sets.specs.Bounded.{list_any-any}
use Rattle.taskset.specs.Model.{no_task}
use Rattle.taskset.specs.Refusals.{uses_none}
use Rattle.response.proofs.ResourcesLaws.{unused_all}
use Rattle.response.proofs.blocking.is_shared.Goals as goal

pub returns : goal.returns
returns c e =
    let tasks = c.args.tasks.now in
    unused_all tasks
    (sym
    (any_from_yields_List (λ t. not (uses_none t)) _ _ _ c.any.ensures.ran (YieldsList-from_slice tasks cc) (λ x b q k. search (rules, tests))
    ∙ list_any-any (λ t. not (uses_none t)) tasks no_task)
    ∙ e)
