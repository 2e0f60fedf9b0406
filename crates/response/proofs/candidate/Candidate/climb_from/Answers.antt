-- `Candidate::climb_from` meets its contract: what was gathered stands for the demand.
use Rattle.std.proofs.Common.{◌∙◌, arith}
use Rattle.response.specs.Agreement.{window_same}
use Rattle.response.proofs.LeapLaws.{start_bounds, stands_bounds}
use Rattle.response.proofs.candidate.Candidate.climb_from.Goals as goal

pub climb_from-requires-clause-low_bound : goal.climb_from-requires-clause-low_bound
climb_from-requires-clause-low_bound c =
    let all = c.gather-all.ensures.stands in grind (arith, (start_bounds _ _ _ _ all.is_load.low all.starts).0, c.max.ensures)

pub climb_from-requires-clause-bounds : goal.climb_from-requires-clause-bounds
climb_from-requires-clause-bounds c =
    let all = c.gather-all.ensures.stands in
    λ v low met.
    let start = (start_bounds _ _ _ _ all.is_load.low all.starts).1 v low met in
    let from = stands_bounds all _ c.requires.low_le_room c.requires.bounds v low met in
    grind (arith, start, from, c.max.ensures)

pub returns : goal.returns
returns c = c.climb_from.ensures ∙ window_same _ _ _ c.gather-all.ensures.stands.same
