-- `Load::leap` meets its contract: the sums of all parts give a bound, as `reach` is one.
use Rattle.std.proofs.Common.{arith}
use Rattle.response.proofs.LeapLaws.{rate_fits, leap_bounds}
use Rattle.response.proofs.load.Load.leap.Goals as goal

pub overflow_add-rate : goal.overflow_add-rate
overflow_add-rate c = grind (arith, rate_fits c.args.self.now.is_load c.args.w c.args.reach)

pub returns-clause-bounds : goal.returns-clause-bounds
returns-clause-bounds c =
    λ v low met. grind (arith, leap_bounds c.args.self.now.is_load c.args.w c.args.reach c.requires.bounds_w v low met, c.requires.bounds_reach v low met)
