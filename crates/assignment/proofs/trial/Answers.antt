-- Without hints the search is the assignment's own. Assumes nothing.
use Rattle.std.proofs.Common.{refl}
use Rattle.assignment.specs.Filling.{assigns_none}
use Rattle.assignment.proofs.trial.Goals as goal

pub returns-clause-holds_levels : goal.returns-clause-holds_levels
returns-clause-holds_levels c = assigns_none _ _ _ c.fresh-start.ensures _ (c.fill_levels.ensures.assigns refl)
