-- No set is marked. Assumes nothing.
use Rattle.subsets.proofs.FoundLaws.{right_none}
use Rattle.subsets.proofs.Found.none.Goals as goal

pub returns : goal.returns
returns c = right_none
