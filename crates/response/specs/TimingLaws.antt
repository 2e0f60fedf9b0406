-- Of the answers up to the period exactly one holds, and it is the function's; and a search that stops at the deadline finds the
-- same where that is no later than the period. For any demand d. Assumes nothing.
use Rattle.std.specs.Prelude.{Option, Some, None}
use Rattle.std.specs.Prelude.{◌≡◌, refl, Bool, ◌↔◌, ℕ, ◌≤◌}
use Rattle.std.proofs.Math.Path.{sym, ap}
use Rattle.std.proofs.Common.{subst, ◌∙◌, arith}
use Rattle.std.proofs.Math.Bool.{true, false}
use Rattle.std.proofs.Math.Dec.{leb}
use borrow.Author.Tests.{leb-true, leb-false, le-leb, lt-leb}
use Rattle.sets.specs.Choice.{pick}
use Rattle.response.specs.declared.Timing.{Timing}
use Rattle.response.specs.declared.Timing.TheVariants.{Met, Missed, PastPeriod}
use Rattle.response.specs.Equation.{Says, response_of}
use Rattle.response.specs.Agreement.{response_says, response_is}
use Rattle.response.specs.Timing.{SaysTimingBy, judged, timing_by, reported, up_to_deadline}

module _ (d : ℕ → ℕ) (jitter deadline period : ℕ) where
  abbrev SaysSo : Timing → Type 0
  SaysSo = SaysTimingBy d jitter deadline period

  -- the function's answer holds
  pub timing_says : SaysSo (timing_by d jitter deadline period)
  unfolding timing_by
  timing_says = go (response_of d jitter period) (response_says d jitter period)
    where
      within : (r : ℕ) → Says d jitter period (Some r) → (b : Bool) → leb r deadline ≡ b → SaysSo (pick b (Met r) (Missed r))
      within r s true e = (s, leb-true r deadline e)
      within r s false e = (s, leb-false r deadline e)

      go : (a : Option ℕ) → Says d jitter period a → SaysSo (judged deadline a)
      go (Some r) s = within r s (leb r deadline) refl
      go None s = s

  -- and one that holds is the function's
  timing_is : (a : Timing) → SaysSo a → a ≡ timing_by d jitter deadline period
  unfolding timing_by
  timing_is (Met r) s =
      let here : judged deadline (Some r) ≡ Met r = rw (le-leb r deadline s.1) in
      sym here ∙ ap (judged deadline) (response_is d jitter period (Some r) s.0)
  timing_is (Missed r) s =
      let here : judged deadline (Some r) ≡ Missed r = rw (lt-leb r deadline s.1) in
      sym here ∙ ap (judged deadline) (response_is d jitter period (Some r) s.0)
  timing_is PastPeriod s = ap (judged deadline) (response_is d jitter period None s)

  pub timing_exactly : (a : Timing) → SaysSo a ↔ (a ≡ timing_by d jitter deadline period)
  timing_exactly a = (timing_is a, λ e. subst SaysSo (sym e) timing_says)

  -- what is reported lies within the period
  pub reported-le : reported (timing_by d jitter deadline period) ≤ period
  reported-le = go (timing_by d jitter deadline period) timing_says
    where
      go : (a : Timing) → SaysSo a → reported a ≤ period
      go (Met r) s = s.0.3
      go (Missed r) s = s.0.3
      go PastPeriod s = omega arith

  -- ---- a search that stops at the deadline

  pub timing_stops : deadline ≤ period → response_of d jitter deadline ≡ up_to_deadline (timing_by d jitter deadline period)
  timing_stops h = sym (response_is d jitter deadline _ (go (timing_by d jitter deadline period) timing_says))
    where
      go : (a : Timing) → SaysSo a → Says d jitter deadline (up_to_deadline a)
      go (Met r) s = (s.0.0, s.0.1, s.0.2, s.1)
      go (Missed r) s = λ w low met. omega (arith, s.0.1.least w low met, s.0.2, s.1)
      go PastPeriod s = λ w low met. omega (arith, s w low met)
