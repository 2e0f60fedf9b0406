-- `Candidate::window` meets its contract: what the climb answers is the search's.
use Rattle.response.specs.Agreement.{window_both}
use Rattle.response.proofs.candidate.Candidate.window.Goals as goal

pub returns : goal.returns
returns c = let w = window_both _ _ _ c.climb_from.ensures in record { value = w.0; says = w.1 }
