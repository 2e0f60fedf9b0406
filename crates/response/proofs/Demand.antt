-- Rounding up, and what follows for demand: it grows with w and with the tasks above, and it is far from what a word
-- holds. Assumes nothing.
use Rattle.std.specs.Prelude.{Some}
use Rattle.std.specs.Prelude.{◌≡◌, refl, Bool, List, [], T, length, get_or, take}
use Rattle.std.proofs.Common.{sym, ap, ◌∙◌, le_refl, le_trans, le_antisymm, le_of_eq, le_of_suc-le-suc, add-le-add, eq-zero-or-pos, div-mul-le_self, le-div_iff_mul-le, div-lt_iff_lt-mul, mul-le-mul_left, mul-le-mul_right, suc-mul, one-mul, arith}
use Rattle.std.proofs.Math.Logic.{⊎_elim}
use Prim.Native.Nat.{ℕ, suc, ◌+◌, ◌-◌, ◌*◌, ◌/◌, ◌≤◌, ◌<◌}
use Rattle.std.specs.Int.{div_ceil}
use Rattle.std.proofs.lemmas.Grind.{div_ceil_times}
use Rattle.std.proofs.Math.Seq.{get_or-take, length-take-le}
use Rattle.std.proofs.Math.Nat.{lt-div-mul-add, div-zero}
use Rattle.sets.specs.Bounded.{Subset, every, without}
use Rattle.sets.specs.Sum.{sum, sum_without, sum_more, sum_start, sum_mono, sum_less, sum_cong, sum-le}
use Rattle.taskset.specs.declared.Task.{Task}
use Rattle.taskset.specs.Refusals.{max_tasks, max_period, InRanges}
use Rattle.taskset.specs.Model.{task_at, SoundTasks}
use Rattle.response.specs.Equation.{ceil, releases, interference, demand, window_of, response_time}
use Rattle.response.specs.Agreement.{less-demand, met_by, response_met}
use Rattle.response.specs.Blocking.{blocking_of}
use Rattle.response.proofs.BlockingLaws.{blocking_fewer, blocking_same}
use Rattle.response.specs.Load.{kept_at, load_demand, IsLoad}

-- ---- rounding up

div_mono : (x y t : ℕ) → x ≤ y → x / t ≤ y / t
div_mono x y t h = ⊎_elim zero_case (λ pos. (le-div_iff_mul-le pos).1 (le_trans (div-mul-le_self x t) h)) (eq-zero-or-pos t)
  where
    zero_case : t ≡ 0 → x / t ≤ y / t
    zero_case e = rw e (le_of_eq (div-zero x ∙ sym (div-zero y)))

pub ceil_mono : (x y t : ℕ) → x ≤ y → ceil x t ≤ ceil y t
ceil_mono x y t h = div_mono (x + (t - 1)) (y + (t - 1)) t (omega arith)

-- ⌈x / t⌉ is the least q with x ≤ q × t
pub ceil-above : (x t : ℕ) → 1 ≤ t → x ≤ ceil x t * t
ceil-above x t h = omega (arith, lt-div-mul-add {a = x + (t - 1)} h)

pub ceil_least : (x t q : ℕ) → 1 ≤ t → x ≤ q * t → ceil x t ≤ q
ceil_least x t q h l = le_of_suc-le-suc ((div-lt_iff_lt-mul h).1 (omega (arith, suc-mul q t)))

-- as std computes it
pub div_ceil_is : (x t : ℕ) → 1 ≤ t → div_ceil x t ≡ ceil x t
div_ceil_is x t h =
    let at = div_ceil_times x t h in
    le_antisymm ((le-div_iff_mul-le h).1 (omega arith)) (ceil_least x t (div_ceil x t) h at.0)

-- so it is 1 for x from 1 to t
pub ceil_one : (x t : ℕ) → 1 ≤ x → x ≤ t → ceil x t ≡ 1
ceil_one x t low high =
    let pos : 1 ≤ t = le_trans low high in
    le_antisymm (ceil_least x t 1 pos (omega arith)) ((le-div_iff_mul-le pos).1 (omega arith))

-- and q × c, for c no more than t, is no more than x and a t
pub ceil_mul_le : (x t c q : ℕ) → q ≡ ceil x t → c ≤ t → q * c ≤ x + t
ceil_mul_le x t c q e h = rw e (omega (arith, mul-le-mul_left (ceil x t) h, div-mul-le_self (x + (t - 1)) t))

-- ---- demand

pub interference_mono : (t : Task) (v w : ℕ) → v ≤ w → interference t v ≤ interference t w
unfolding interference
interference_mono t v w h = mul-le-mul_right t.execution (ceil_mono (v + t.jitter) (w + t.jitter) t.period (omega arith))

-- and with the execution time
interference_shorter : (s t : Task) (w : ℕ) → s.period ≡ t.period → s.jitter ≡ t.jitter → s.execution ≤ t.execution
    → interference s w ≤ interference t w
unfolding interference
interference_shorter s t w period jitter h = rw (period, jitter) (mul-le-mul_left (releases t w) h)

-- a task in its ranges brings at most what its releases span
pub interference-le : (t : Task) (w : ℕ) → InRanges t → interference t w ≤ w + 2 * max_period
unfolding interference
interference-le t w r =
    let q = ceil (w + t.jitter) t.period in
    omega (arith, ceil_mul_le (w + t.jitter) t.period t.execution q refl r.execution.1, r.period, r.jitter)

-- and in a window from 1 on it brings at least its execution time
interference-some : (t : Task) (w : ℕ) → InRanges t → 1 ≤ w → t.execution ≤ interference t w
unfolding interference
interference-some t w r low =
    let once : 1 ≤ ceil (w + t.jitter) t.period = (le-div_iff_mul-le r.period.0).1 (omega (arith, r.period)) in
    omega (arith, mul-le-mul_right t.execution once)

-- it grows with the window
pub demand_mono : (tasks : List Task) (i : ℕ) (above : ℕ → Bool) (v w : ℕ) → v ≤ w → demand tasks i above v ≤ demand tasks i above w
unfolding demand
demand_mono tasks i above v w h =
    add-le-add (le_refl (blocking_of tasks i above + (task_at tasks i).execution))
    (sum_mono (length tasks) above above _ _ (λ j l t. t) (λ j l t. interference_mono (task_at tasks j) v w h))

module _ {tasks : List Task} (sound : SoundTasks tasks) (i : ℕ) where
  -- a task that is no longer above takes away at least its execution time, and what it may block by is no more
  pub demand_fewer : (fewer above : ℕ → Bool) → Subset (length tasks) fewer above → (w : ℕ) → 1 ≤ w
      → demand tasks i fewer w ≤ demand tasks i above w
  unfolding demand
  demand_fewer fewer above sub w low = ⊎_elim same gains (blocking_fewer sound i fewer above sub)
    where
      brings : ℕ → ℕ
      brings j = interference (task_at tasks j) w

      same : blocking_of tasks i fewer ≤ blocking_of tasks i above → demand tasks i fewer w ≤ demand tasks i above w
      same h = omega (arith, h, sum_mono (length tasks) fewer above brings brings sub (λ j l t. le_refl (brings j)))

      gains : (j : ℕ) × (j < length tasks) × T (above j) × (T (fewer j) → ⊥) × (blocking_of tasks i fewer ≤ (task_at tasks j).execution)
          → demand tasks i fewer w ≤ demand tasks i above w
      gains m =
          let (j, inside, was, gone, h) = m in
          let less = sum_less (length tasks) fewer above brings sub j inside was gone in
          omega (arith, h, less, interference-some (task_at tasks j) w (sound.each j inside) low)

  -- fewer tasks above never lengthen a response
  pub fewer_above : (fewer above : ℕ → Bool) → Subset (length tasks) fewer above
      → (limit r : ℕ) → response_time tasks i above limit ≡ Some r
      → (q : ℕ) × (response_time tasks i fewer limit ≡ Some q) × (q ≤ r)
  fewer_above fewer above sub =
      less-demand (demand tasks i fewer) (demand tasks i above) (demand_fewer fewer above sub) (task_at tasks i).jitter

-- ---- rows that are the same but for execution times, of which none is longer

pub record Shorter (less more : List Task) : Type 0 where
  pub same_length : length less ≡ length more
  pub period : (j : ℕ) → (task_at less j).period ≡ (task_at more j).period
  pub deadline : (j : ℕ) → (task_at less j).deadline ≡ (task_at more j).deadline
  pub jitter : (j : ℕ) → (task_at less j).jitter ≡ (task_at more j).jitter
  pub sections : (j : ℕ) → (task_at less j).sections ≡ (task_at more j).sections
  pub execution : (j : ℕ) → (task_at less j).execution ≤ (task_at more j).execution

module _ {less more : List Task} (shorter : Shorter less more) (i : ℕ) (above : ℕ → Bool) where
  demand_shorter : (w : ℕ) → demand less i above w ≤ demand more i above w
  unfolding demand
  demand_shorter w =
      let brings = sum_mono (length more) above above (λ j. interference (task_at less j) w) (λ j. interference (task_at more j) w)
      (λ j h t. t) (λ j h t. interference_shorter (task_at less j) (task_at more j) w (shorter.period j) (shorter.jitter j) (shorter.execution j)) in
      rw (blocking_same i above less more shorter.same_length shorter.sections, shorter.same_length) (omega (arith, shorter.execution i, brings))

  -- never lengthen a response
  pub shorter_response : (limit r : ℕ) → response_time more i above limit ≡ Some r
      → (q : ℕ) × (response_time less i above limit ≡ Some q) × (q ≤ r)
  shorter_response =
      rw (shorter.jitter i)
      (less-demand (demand less i above) (demand more i above) (λ w low. demand_shorter w) (task_at more i).jitter)

-- a task is released once in a window from 1 on whose end, its jitter later, is no later than its period
pub interference_once : (t : Task) (w : ℕ) → 1 ≤ w → w + t.jitter ≤ t.period → interference t w ≡ t.execution
unfolding interference
interference_once t w low high =
    let once : ceil (w + t.jitter) t.period ≡ 1 = ceil_one (w + t.jitter) t.period (omega arith) high in
    rw once (one-mul t.execution)

-- ---- at a level: with the others left above it, each task left has the same demand in a window that its period covers, for then it
-- is released once itself

module _ {tasks : List Task} (sound : SoundTasks tasks) (left : ℕ → Bool) where
  pub demand_left : (i : ℕ) → i < length tasks → T (left i) → (w : ℕ) → 1 ≤ w → w + (task_at tasks i).jitter ≤ (task_at tasks i).period
      → demand tasks i (without left i) w
      ≡ blocking_of tasks i (without left i) + sum (length tasks) left (λ j. interference (task_at tasks j) w)
  unfolding demand
  demand_left i h t w low high =
      let all = sum_without (length tasks) left (λ j. interference (task_at tasks j) w) i h t in
      omega (arith, all, interference_once (task_at tasks i) w low high)

  -- so one of them has the window of all that have no more room
  pub response_left : (i m : ℕ) → i < length tasks → T (left i) → m < length tasks → T (left m)
      → blocking_of tasks i (without left i) ≡ blocking_of tasks m (without left m)
      → (limit room : ℕ) → limit ≤ (task_at tasks i).period → room + (task_at tasks m).jitter ≤ (task_at tasks m).period
      → limit - (task_at tasks i).jitter ≤ room
      → response_time tasks i (without left i) limit
      ≡ met_by (task_at tasks i).jitter limit (window_of (demand tasks m (without left m)) room)
  response_left i m hi ti hm tm blocked limit room period_i period_m less =
      response_met (demand tasks i (without left i)) (demand tasks m (without left m)) (task_at tasks i).jitter limit room less
      (λ w low short. demand_left i hi ti w low (omega arith)
      ∙ ap (λ (b : ℕ). b + sum (length tasks) left (λ j. interference (task_at tasks j) w)) blocked
      ∙ sym (demand_left m hm tm w low (omega arith)))

-- ---- of a load: a base, and tasks that are kept beside it, as indices

pub load_mono : (base : ℕ) (tasks : List Task) (kept : List ℕ) (v w : ℕ) → v ≤ w
    → load_demand base tasks kept v ≤ load_demand base tasks kept w
unfolding load_demand
load_mono base tasks kept v w h =
    add-le-add (le_refl base)
    (sum_mono (length kept) every every _ _ (λ k l t. t) (λ k l t. interference_mono (kept_at tasks kept k) v w h))

-- of the first of the tasks kept
module _ (base : ℕ) (tasks : List Task) (kept : List ℕ) where
  pub load_front : (n : ℕ) → n ≤ length kept → (w : ℕ)
      → load_demand base tasks (take n kept) w ≡ base + sum n every (λ k. interference (kept_at tasks kept k) w)
  unfolding load_demand
  load_front n h w =
      rw (length-take-le n kept h)
      (ap (λ (s : ℕ). base + s)
      (sum_cong n every _ _ (λ k l. ap (λ (i : ℕ). interference (task_at tasks i) w) (get_or-take n kept k 0 l))))

  pub load_none : (w : ℕ) → load_demand base tasks [] w ≡ base
  unfolding load_demand
  load_none w = sym (sum_start base every _)

  pub load_more : (n : ℕ) → n < length kept → (w : ℕ)
      → load_demand base tasks (take (n + 1) kept) w ≡ load_demand base tasks (take n kept) w + interference (kept_at tasks kept n) w
  load_more n h w =
      let more = sum_more n every (λ k. interference (kept_at tasks kept k) w) in
      omega (arith, load_front (n + 1) (omega arith) w, load_front n (omega arith) w, more)

module _ {base : ℕ} {tasks : List Task} {kept : List ℕ} (load : IsLoad base tasks kept) where
  pub kept_row : (k : ℕ) → k < length kept → InRanges (kept_at tasks kept k)
  kept_row k h = load.sound.each (get_or kept k 0) (load.inside k h)

  -- and what one task more brings is far from what a word holds
  pub load_fits : (n : ℕ) → n < length kept → (w : ℕ) → w ≤ max_period
      → load_demand base tasks (take n kept) w + interference (kept_at tasks kept n) w ≤ 4 * (max_tasks + 2) * max_period
  load_fits n h w short =
      let few = le_trans h load.few in
      let each : (k : ℕ) → k < suc n → interference (kept_at tasks kept k) w ≤ 3 * max_period =
      λ k l. le_trans (interference-le (kept_at tasks kept k) w (kept_row k (omega arith))) (omega arith) in
      let brought = sum-le n every _ (3 * max_period) (λ k l t. each k (omega arith)) in
      omega (arith, load_front base tasks kept n (omega arith) w, load.high, brought, each n (omega arith))

-- for a loop over them
pub ruleset load_steps = (load_none, load_more, load_fits)
