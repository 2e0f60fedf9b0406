-- The functions of `Equation` give what its relations say, and nothing else does; and less demand never lengthens a
-- response. All of it for any demand d. Assumes nothing.
use Rattle.std.specs.Prelude.{Option, Some, None}
use Rattle.std.specs.Prelude.{◌≡◌, Bool}
use Rattle.std.proofs.Math.Path.{refl}
use Rattle.std.proofs.Common.{sym, ap, ap₂, subst, ◌∙◌, ⊎_elim, le_refl, le_trans, le_antisymm, eq-or-lt_of_le}
use Rattle.std.proofs.Math.Bool.{true, false}
use Prim.Native.Nat.{ℕ, zero, suc, ◌+◌, ◌-◌, ◌≤◌, ◌<◌}
use native.Mathlib.Omega.{arith}
use borrow.Author.Tests.{leb-true, leb-false}
use Rattle.std.proofs.Math.Dec.{leb}
use Rattle.sets.specs.Choice.{pick}
use Rattle.response.specs.Equation.{IsWindow, SaysWindow, Says, window_from, window_of, respond, response_of}
use Rattle.response.specs.Load.{Bounds}

module _ (d : ℕ → ℕ) where
  -- a number that is no solution and bounds them all moves the bound up
  bounds_next : (w : ℕ) → w < d w → Bounds d w → Bounds d (suc w)
  bounds_next w h b v low met =
      ⊎_elim (λ e. absurd (omega (arith, ap d e))) (λ l. l) (eq-or-lt_of_le (b v low met))

  window_from_lem : (room fuel w : ℕ) → w + fuel ≡ suc room → 1 ≤ w → Bounds d w → SaysWindow d room (window_from d fuel w)
  unfolding window_from
  window_from_lem room zero w e low b = λ v l m. let h = b v l m in omega arith
  window_from_lem room (suc fuel) w e low b =
      go (leb (d w) w) refl (λ over. window_from_lem room fuel (suc w) (omega arith) (omega arith) (bounds_next w over b))
    where
      go : (t : Bool) → leb (d w) w ≡ t → (w < d w → SaysWindow d room (window_from d fuel (suc w)))
          → SaysWindow d room (pick t (Some w) (window_from d fuel (suc w)))
      go true h later = (record { low = low; met = leb-true (d w) w h; least = b }, omega arith)
      go false h later = later (leb-false (d w) w h)

  pub window_says : (room : ℕ) → SaysWindow d room (window_of d room)
  unfolding window_of
  window_says room = window_from_lem room room 1 (omega arith) (omega arith) (λ v low met. low)

  window_unique : (room : ℕ) (a b : Option ℕ) → SaysWindow d room a → SaysWindow d room b → a ≡ b
  window_unique room (Some w) (Some v) s t =
      ap Some (le_antisymm (s.0.least v t.0.low t.0.met) (t.0.least w s.0.low s.0.met))
  window_unique room (Some w) None s t = absurd (omega (arith, t w s.0.low s.0.met))
  window_unique room None (Some v) s t = absurd (omega (arith, s v t.0.low t.0.met))
  window_unique room None None s t = refl

  -- so an answer that says so is the function's
  pub window_is : (room : ℕ) (a : Option ℕ) → SaysWindow d room a → a ≡ window_of d room
  window_is room a s = window_unique room a (window_of d room) s (window_says room)

  pub window_both : (room : ℕ) (a : Option ℕ) → a ≡ window_of d room → (a ≡ window_of d room) × SaysWindow d room a
  window_both room a e = (e, subst (SaysWindow d room) (sym e) (window_says room))

  -- a window that is found is the window in more room
  pub window_wider : (near room w : ℕ) → near ≤ room → Some w ≡ window_of d near → Some w ≡ window_of d room
  window_wider near room w h e =
      let s = (window_both near (Some w) e).1 in window_is room (Some w) (s.0, le_trans s.1 h)

  -- where none is, the room and one more is a bound; and where a bound lies beyond the room, there is none
  pub window_past : (near : ℕ) → None ≡ window_of d near → Bounds d (near + 1)
  window_past near e v low met = omega (arith, (window_both near None e).1 v low met)

  pub window_none : (room w : ℕ) → room < w → Bounds d w → None ≡ window_of d room
  window_none room w h b = window_is room None (λ v low met. omega (arith, b v low met))

  pub no_window : window_of d 0 ≡ None
  unfolding window_of window_from
  no_window = refl

  respond_says : (jitter limit : ℕ) (a : Option ℕ) → SaysWindow d (limit - jitter) a → Says d jitter limit (respond jitter a)
  respond_says jitter limit (Some w) s = (w, s.0, refl, omega (arith, s.0.low, s.1))
  respond_says jitter limit None s = λ w low met. omega (arith, s w low met)

  pub response_says : (jitter limit : ℕ) → Says d jitter limit (response_of d jitter limit)
  unfolding response_of
  response_says jitter limit = respond_says jitter limit (window_of d (limit - jitter)) (window_says (limit - jitter))

  response_unique : (jitter limit : ℕ) (a b : Option ℕ) → Says d jitter limit a → Says d jitter limit b → a ≡ b
  response_unique jitter limit (Some r) (Some q) s t =
      let le = s.1.least t.0 t.1.low t.1.met in
      let ge = t.1.least s.0 s.1.low s.1.met in
      ap Some (omega (arith, s.2, t.2))
  response_unique jitter limit (Some r) None s t = absurd (omega (arith, t s.0 s.1.low s.1.met, s.2, s.3))
  response_unique jitter limit None (Some q) s t = absurd (omega (arith, s t.0 t.1.low t.1.met, t.2, t.3))
  response_unique jitter limit None None s t = refl

  pub response_is : (jitter limit : ℕ) (a : Option ℕ) → Says d jitter limit a → a ≡ response_of d jitter limit
  response_is jitter limit a s = response_unique jitter limit a (response_of d jitter limit) s (response_says jitter limit)

  -- ---- the climb

  -- where d never falls, a bound may be moved up to its demand
  pub climb : ((v w : ℕ) → v ≤ w → d v ≤ d w) → (w : ℕ) → Bounds d w → Bounds d (d w)
  climb mono w b v low met = le_trans (mono w v (b v low met)) met

-- ---- demands that agree up to room have the same window up to it

same_from : (d e : ℕ → ℕ) (fuel w : ℕ) → ((v : ℕ) → w ≤ v → v < w + fuel → d v ≡ e v)
    → window_from d fuel w ≡ window_from e fuel w
unfolding window_from
same_from d e zero w same = refl
same_from d e (suc fuel) w same =
    ap₂ (λ (x : ℕ) (later : Option ℕ). pick (leb x w) (Some w) later) (same w (le_refl w) (omega arith))
    (same_from d e fuel (suc w) (λ v low high. same v (omega arith) (omega arith)))

pub window_same : (d e : ℕ → ℕ) (room : ℕ) → ((w : ℕ) → 1 ≤ w → w ≤ room → d w ≡ e w) → window_of d room ≡ window_of e room
unfolding window_of
window_same d e room same = same_from d e room 1 (λ v low high. same v low (omega arith))

-- ---- less demand, no longer a response

pub less-demand : (c d : ℕ → ℕ) → ((w : ℕ) → 1 ≤ w → c w ≤ d w) → (jitter limit r : ℕ) → response_of d jitter limit ≡ Some r
    → (q : ℕ) × (response_of c jitter limit ≡ Some q) × (q ≤ r)
less-demand c d less jitter limit r e =
    go (response_of c jitter limit) refl (subst (Says d jitter limit) e (response_says d jitter limit)) (response_says c jitter limit)
  where
    go : (a : Option ℕ) → response_of c jitter limit ≡ a → Says d jitter limit (Some r) → Says c jitter limit a
        → (q : ℕ) × (response_of c jitter limit ≡ Some q) × (q ≤ r)
    go (Some q) f s t =
        let h = t.1.least s.0 s.1.low (le_trans (less s.0 s.1.low) s.1.met) in
        (q, f, omega (arith, s.2, t.2))
    go None f s t = absurd (omega (arith, t s.0 s.1.low (le_trans (less s.0 s.1.low) s.1.met), s.2, s.3))

-- ---- and a response may be read off the window of another demand, with which it agrees up to its limit

-- the response of a task that has this jitter, where its window is this one and its limit is met
abbrev pub met_by : ℕ → ℕ → Option ℕ → Option ℕ
met_by jitter limit None = None
met_by jitter limit (Some w) = pick (leb (jitter + w) limit) (Some (jitter + w)) None

pub response_met : (d e : ℕ → ℕ) (jitter limit room : ℕ) → limit - jitter ≤ room
    → ((w : ℕ) → 1 ≤ w → w ≤ limit - jitter → d w ≡ e w) → response_of d jitter limit ≡ met_by jitter limit (window_of e room)
unfolding response_of
response_met d e jitter limit room less same =
    ap (respond jitter) (window_same d e (limit - jitter) same) ∙ go (window_of e room) (window_says e room)
  where
    within : (w : ℕ) → IsWindow e w → (b : Bool) → leb (jitter + w) limit ≡ b
        → respond jitter (window_of e (limit - jitter)) ≡ pick b (Some (jitter + w)) None
    within w is true f =
        ap (respond jitter) (sym (window_is e (limit - jitter) (Some w) (is, omega (arith, leb-true (jitter + w) limit f))))
    within w is false f =
        ap (respond jitter)
        (sym
        (window_is e (limit - jitter) None (λ v low met. omega (arith, is.low, is.least v low met, leb-false (jitter + w) limit f))))

    go : (a : Option ℕ) → SaysWindow e room a → respond jitter (window_of e (limit - jitter)) ≡ met_by jitter limit a
    go (Some w) s = within w s.0 (leb (jitter + w) limit) refl
    go None s =
        ap (respond jitter) (sym (window_is e (limit - jitter) None (λ v low met. omega (arith, less, s v low met))))
