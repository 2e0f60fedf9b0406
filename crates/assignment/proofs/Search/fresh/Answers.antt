-- Every level is free, and every task left. Assumes nothing.
use Rattle.assignment.specs.Filling.{holds_none}
use Rattle.assignment.proofs.Search.fresh.Goals as goal

pub returns : goal.returns
returns c = holds_none _ _ c.requires c.first.ensures
