-- Bounds below every window of a base and tasks, for the climb to start from and to leap to.
-- With v at least w, a task brings at least what it brings at w, and at least (v + J) × C / T. Whichever of the two is taken
-- for each task, a window v has fixed + v × rate ≤ v × scale, and so lies at or above fixed / (scale − rate). Assumes nothing.
use Rattle.std.specs.Prelude.{◌≡◌, Bool, true, false, List, ℕ, suc, ◌+◌, ◌-◌, ◌*◌, ◌≤◌, ◌<◌, leb, length}
use Rattle.std.proofs.Math.Path.{refl}
use Rattle.std.proofs.Common.{sym, ◌∙◌, subst, ⊎_elim, div-mul-le_self, mul-le-mul, mul-le-mul_left, mul-le-mul_right, mul_assoc, mul_comm, arith, leb-true, leb-false}
use Rattle.std.proofs.Math.Nat.{mul-sub, div-le_of_le-mul}
use Rattle.sets.specs.Choice.{pick, lt_or_le}
use Rattle.sets.specs.Bounded.{every}
use Rattle.sets.specs.Sum.{sum, sum-none, sum_start, sum_more, sum-le, sum_scaled}
use Rattle.taskset.specs.declared.Task.{Task}
use Rattle.taskset.specs.Refusals.{max_tasks, max_period, InRanges}
use Rattle.taskset.specs.Model.{SoundTasks}
use Rattle.response.specs.Equation.{ceil, releases, interference, demand}
use Rattle.response.specs.Agreement.{climb}
use Rattle.response.proofs.Demand.{ceil-above, ceil_least, interference_mono, interference-le, demand_mono, load_mono, kept_row}
use Rattle.response.specs.Load.{Bounds, kept_at, IsLoad, load_demand, StandsFor}
use Rattle.response.specs.Load.{scale, rate, ends, fixed_part, rate_part, bound_of}

-- ---- it is no more than what the task brings

rate-le : (t : Task) (v : ℕ) → 1 ≤ t.period → (v + t.jitter) * rate t ≤ scale * interference t v
unfolding interference
rate-le t v h =
    let q = releases t v in
    let each : rate t * t.period ≤ t.execution * scale = div-mul-le_self (t.execution * scale) t.period in
    let a = mul-le-mul_right (rate t) (ceil-above (v + t.jitter) t.period h) in
    let b = mul-le-mul_left q (rw (mul_comm (rate t) t.period) at each) in
    let c = mul_assoc q t.period (rate t) in
    let e = sym (mul_assoc q t.execution scale) ∙ mul_comm (q * t.execution) scale in
    omega (arith, a, b, c, e)

part-le : (t : Task) (w reach v : ℕ) → 1 ≤ t.period → w ≤ v
    → fixed_part w reach t + v * rate_part w reach t ≤ scale * interference t v
unfolding fixed_part rate_part interference
part-le t w reach v h from = go (ends t w reach)
  where
    go : (b : Bool)
        → pick b (rate t * t.jitter) (releases t w * t.execution * scale) + v * pick b (rate t) 0 ≤ scale * interference t v
    go true = let l = rate-le t v h in omega (arith, l, mul_comm (rate t) t.jitter)
    go false = let l = mul-le-mul_left scale (interference_mono t w v from) in omega (arith, l)

-- ---- and far from what a word holds

rate_whole : (t : Task) → InRanges t → rate t ≤ scale
rate_whole t r = div-le_of_le-mul t.period (mul-le-mul_right scale r.execution.1)

rate_part_le : (t : Task) (w reach : ℕ) → InRanges t → rate_part w reach t ≤ scale
unfolding rate_part
rate_part_le t w reach r = go (ends t w reach)
  where
    go : (b : Bool) → pick b (rate t) 0 ≤ scale
    go true = rate_whole t r
    go false = omega arith

rate-over-jitter : (t : Task) → InRanges t → rate t * t.jitter ≤ scale * max_period
rate-over-jitter t r = let small : t.jitter ≤ max_period = omega (arith, r.jitter, r.period) in mul-le-mul (rate_whole t r) small

releases-bring : (t : Task) (w : ℕ) → InRanges t → w ≤ max_period → releases t w * t.execution ≤ 3 * max_period
unfolding interference
releases-bring t w r short = omega (arith, interference-le t w r)

fixed_part_le : (t : Task) (w reach : ℕ) → InRanges t → w ≤ max_period → fixed_part w reach t ≤ 3 * max_period * scale
unfolding fixed_part
fixed_part_le t w reach r short = go (ends t w reach)
  where
    go : (b : Bool) → pick b (rate t * t.jitter) (releases t w * t.execution * scale) ≤ 3 * max_period * scale
    go true = omega (arith, rate-over-jitter t r)
    go false = mul-le-mul_right scale (releases-bring t w r short)

-- ---- of a base and the first n of the tasks that are kept

module _ (base : ℕ) (tasks : List Task) (kept : List ℕ) (w reach : ℕ) where
  unfoldable pub fixed_parts : ℕ → ℕ
  fixed_parts n = base * scale + sum n every (λ k. fixed_part w reach (kept_at tasks kept k))

  pub fixed_none : fixed_parts 0 ≡ base * scale
  unfolding fixed_parts
  fixed_none = sym (sum_start (base * scale) every _)

  pub fixed_more : (n : ℕ) → fixed_parts (n + 1) ≡ fixed_parts n + fixed_part w reach (kept_at tasks kept n)
  unfolding fixed_parts
  fixed_more n = omega (arith, sum_more n every (λ k. fixed_part w reach (kept_at tasks kept k)))

module _ (tasks : List Task) (kept : List ℕ) (w reach : ℕ) where
  unfoldable pub rate_parts : ℕ → ℕ
  rate_parts n = sum n every (λ k. rate_part w reach (kept_at tasks kept k))

  pub rate_none : rate_parts 0 ≡ 0
  unfolding rate_parts
  rate_none = sum-none every _

  pub rate_more : (n : ℕ) → rate_parts (n + 1) ≡ rate_parts n + rate_part w reach (kept_at tasks kept n)
  unfolding rate_parts
  rate_more n = sum_more n every _

module _ {base : ℕ} {tasks : List Task} {kept : List ℕ} (load : IsLoad base tasks kept) (w reach : ℕ) where
  abbrev all_fixed : ℕ
  all_fixed = fixed_parts base tasks kept w reach (length kept)

  abbrev all_rate : ℕ
  all_rate = rate_parts tasks kept w reach (length kept)

  -- words hold them
  pub fixed_fits : (n : ℕ) → n < length kept → w ≤ max_period
      → fixed_parts base tasks kept w reach n + fixed_part w reach (kept_at tasks kept n) ≤ 4 * (max_tasks + 2) * max_period * scale
  unfolding fixed_parts
  fixed_fits n h short =
      let few = load.few in
      let each : (k : ℕ) → k < suc n → fixed_part w reach (kept_at tasks kept k) ≤ 3 * max_period * scale =
      λ k l. fixed_part_le (kept_at tasks kept k) w reach (kept_row load k (omega arith)) short in
      omega (arith, sum-le n every _ (3 * max_period * scale) (λ k l t. each k (omega arith)), each n (omega arith), load.high)

  pub rate_fits : (n : ℕ) → n < length kept
      → rate_parts tasks kept w reach n + rate_part w reach (kept_at tasks kept n) ≤ max_tasks * scale
  unfolding rate_parts
  rate_fits n h =
      let few = load.few in
      let each : (k : ℕ) → k < suc n → rate_part w reach (kept_at tasks kept k) ≤ scale =
      λ k l. rate_part_le (kept_at tasks kept k) w reach (kept_row load k (omega arith)) in
      omega (arith, sum-le n every _ scale (λ k l t. each k (omega arith)), each n (omega arith))

  -- and those of all give a bound
  pub leap_bounds : Bounds (load_demand base tasks kept) w → Bounds (load_demand base tasks kept) (bound_of all_fixed all_rate)
  unfolding load_demand bound_of fixed_parts rate_parts
  leap_bounds b v low met = go (leb scale all_rate) refl
    where
      -- a window has fixed + v × rate ≤ v × scale
      spread : all_fixed + v * all_rate ≤ scale * v
      spread =
          let s =
          sum_scaled (length kept) every _ _ _ v scale
          (λ k l t. part-le (kept_at tasks kept k) w reach v (kept_row load k l).period.0 (b v low met)) in
          omega (arith, s, met)

      go : (c : Bool) → leb scale all_rate ≡ c → pick c (max_period + 1) (ceil all_fixed (scale - all_rate)) ≤ v
      go true g =
          let over = mul-le-mul_left v (leb-true scale all_rate g) in
          absurd (omega (arith, spread, over, load.low, mul_comm v scale))
      go false g =
          let under = leb-false scale all_rate g in
          ceil_least all_fixed (scale - all_rate) v (omega (arith, under))
          (omega (arith, spread, mul-sub v scale all_rate, mul_comm v scale))

-- for a loop over them
pub ruleset leap_steps = (fixed_none, rate_none, fixed_more, rate_more, fixed_fits)

-- ---- the climb

-- it starts at the demand at 1
pub start_bounds : (base : ℕ) (tasks : List Task) (kept : List ℕ) (start : ℕ) → 1 ≤ base → start ≡ load_demand base tasks kept 1
    → (1 ≤ start) × Bounds (load_demand base tasks kept) start
unfolding load_demand
start_bounds base tasks kept start low e = (
  omega (arith, low, e),
  subst (Bounds (load_demand base tasks kept)) (sym e) (climb (load_demand base tasks kept) (load_mono base tasks kept) 1 (λ v low met. low)),
)

-- as no window of a task lies below its demand at 1
pub demand_start : (tasks : List Task) (i : ℕ) (above : ℕ → Bool) → i < length tasks → SoundTasks tasks
    → (1 ≤ demand tasks i above 1) × Bounds (demand tasks i above) (demand tasks i above 1)
unfolding demand
demand_start tasks i above h sound = (
  omega (arith, (sound.each i h).execution),
  climb (demand tasks i above) (demand_mono tasks i above) 1 (λ v low met. low),
)

-- and a bound on the windows of a demand is one on those of a load that stands for it so far
pub stands_bounds : {tasks : List Task} {i : ℕ} {above : ℕ → Bool} {reach base : ℕ} {kept : List ℕ} {start : ℕ}
    → StandsFor tasks i above reach base kept start → (w : ℕ) → w ≤ reach → Bounds (demand tasks i above) w → Bounds (load_demand base tasks kept) w
stands_bounds {reach = reach} stands w h b v low met =
    ⊎_elim (λ past. omega (arith, past, h)) (λ short. b v low (omega (arith, stands.same v low short, met))) (lt_or_le reach v)
