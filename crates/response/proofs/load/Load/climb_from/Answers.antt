-- `Load::climb_from` meets its contract: no solution lies below w, and w rises to its demand or further.
use Rattle.std.proofs.Common.{Some, None, sym, subst, arith}
use Rattle.response.specs.Agreement.{climb, window_is}
use Rattle.response.proofs.Demand.{load_mono}
use Rattle.response.specs.Load.{Bounds}
use Rattle.response.proofs.load.Load.climb_from.Goals as goal

pub loop-w-init : goal.loop-w-init
loop-w-init c = record { low = c.requires.low_bound; rounds = omega arith; bounds = c.requires.bounds }

pub next-w-requires-clause-bounds_needed : goal.next-w-requires-clause-bounds_needed
next-w-requires-clause-bounds_needed c =
    subst (Bounds _) (sym c.demand-needed.ensures) (climb _ (load_mono _ _ _) _ c.loop-w.invariant.bounds)

pub returns-then-room-w : goal.returns-then-room-w
returns-then-room-w c = window_is _ _ None (λ v low met. omega (arith, c.loop-w.invariant.bounds v low met))

pub returns-then-needed-w : goal.returns-then-needed-w
returns-then-needed-w c =
    window_is _ _ (Some _)
    (record { low = c.loop-w.invariant.low; met = omega (arith, c.demand-needed.ensures); least = c.loop-w.invariant.bounds }, omega arith)
