-- `Load::climb` meets its contract: no window lies below the demand at 1.
use Rattle.response.proofs.LeapLaws.{start_bounds}
use Rattle.response.proofs.load.Load.climb.Goals as goal

pub climb_from-requires-clause-low_bound : goal.climb_from-requires-clause-low_bound
climb_from-requires-clause-low_bound c = (start_bounds _ _ _ _ c.args.self.now.is_load.low c.requires.start_value).0

pub climb_from-requires-clause-bounds : goal.climb_from-requires-clause-bounds
climb_from-requires-clause-bounds c = (start_bounds _ _ _ _ c.args.self.now.is_load.low c.requires.start_value).1
