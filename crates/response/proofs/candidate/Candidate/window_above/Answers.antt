-- `Candidate::window_above` meets its contract: a window that is found near by is the least, and where none is, none lies so far.
use Rattle.std.specs.Prelude.{◌≡◌, ℕ, max}
use Rattle.std.proofs.Common.{sym, ap, ◌∙◌, arith}
use Rattle.response.specs.declared.candidate.Candidate.{Candidate}
use Rattle.response.specs.Agreement.{window_wider, window_past, window_none}
use Rattle.response.specs.Equation.{demand}
use Rattle.response.specs.Load.{Bounds}
use Rattle.response.specs.Views.{tasks_of, above_of}
use Rattle.response.proofs.LeapLaws.{demand_start}
use Rattle.response.proofs.candidate.Candidate.window_above.Goals as goal

-- no window lies below the bound that is handed, nor below demand(1)
module _ (s : Candidate) where
  abbrev own : ℕ → ℕ
  own = demand (tasks_of s) s.task.0 (above_of s)

  begins : (low from : ℕ) → Bounds own low → from ≡ max low (own 1) → Bounds own from
  begins low from b e v some met =
      grind (arith, b v some met, (demand_start (tasks_of s) s.task.0 (above_of s) s.inside s.tasks.sound).1 v some met, e)

pub returns-then-room-from : goal.returns-then-room-from
returns-then-room-from c =
    window_none _ _ _ c.if-room-from.true (begins c.args.self.now _ _ c.requires.bounds (c.max-from.ensures ∙ ap (max c.args.low) c.start.ensures))

pub climb_from-requires-clause-bounds : goal.climb_from-requires-clause-bounds
climb_from-requires-clause-bounds c = begins c.args.self.now _ _ c.requires.bounds (c.max-from.ensures ∙ ap (max c.args.low) c.start.ensures)

pub returns-in-Some : goal.returns-in-Some
returns-in-Some c = window_wider _ _ _ _ c.step-reach.ensures.1 (sym c.in-Some.is ∙ c.climb_from.ensures)

pub climb_from-requires-2-clause-bounds : goal.climb_from-requires-2-clause-bounds
climb_from-requires-2-clause-bounds c = window_past _ _ (sym c.in_default.is ∙ c.climb_from.ensures)
