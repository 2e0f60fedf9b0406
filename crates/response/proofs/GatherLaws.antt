-- What a climb up to room goes over: a base, and the tasks that may be released more than once in a window.
-- A task with room + J ≤ T is released once in each window from 1 to room: it is part of the base. Assumes nothing.
use Rattle.std.specs.Prelude.{◌≡◌, Bool, List, ℕ, ◌+◌, ◌*◌, ◌≤◌, ◌<◌, take, set}
use Rattle.std.proofs.Common.{ap, arith, get_or-set_same, get_or-set_other}
use Rattle.std.proofs.Math.Bool.{true, false}
use Rattle.std.proofs.Math.ListN.{length, get_or, length-set}
use Rattle.std.proofs.Math.Seq.{get_or-take, length-take-le}
use borrow.Author.Count.{below_more, below_none}
use Rattle.sets.specs.Choice.{pick}
use Rattle.sets.specs.Bounded.{every}
use Rattle.sets.specs.Sum.{sum, sum-none, sum_more, sum_start, sum_turn, sum_cong}
use Rattle.taskset.specs.declared.Task.{Task}
use Rattle.taskset.specs.Refusals.{max_period}
use Rattle.response.specs.Equation.{interference, demand}
use Rattle.response.proofs.Demand.{interference_once, load_front}
use Rattle.response.proofs.BlockingLaws.{blocking_le}
use Rattle.taskset.specs.Model.{task_at, SoundTasks}
use Rattle.response.specs.Blocking.{blocking_of}
use Rattle.response.specs.Load.{StandsFor, kept_at}

module _ (tasks : List Task) (i : ℕ) (above : ℕ → Bool) where
  -- what the task itself needs
  abbrev own : ℕ
  own = blocking_of tasks i above + (task_at tasks i).execution

  -- what the first n that are kept bring
  abbrev bring : ℕ → List ℕ → ℕ → ℕ
  bring n kept w = sum n every (λ k. interference (kept_at tasks kept k) w)

  -- and what those above among the first j bring
  abbrev above_bring : ℕ → ℕ → ℕ
  above_bring j w = sum j above (λ k. interference (task_at tasks k) w)

  -- a base and n tasks that stand for the task and for the first j tasks
  pub record GatheredTo (room j base start n : ℕ) (kept : List ℕ) : Type 0 where
    pub few : n ≤ j
    pub room_for : n ≤ length kept
    pub inside : (k : ℕ) → k < n → get_or kept k 0 < length tasks
    pub low : 1 ≤ base
    pub high : start ≤ (j + 2) * max_period
    pub first : start ≡ base + bring n kept 1
    pub same : (w : ℕ) → 1 ≤ w → w ≤ room → base + bring n kept w ≡ own + above_bring j w

pub own_fits : {tasks : List Task} {i : ℕ} → SoundTasks tasks → i < length tasks → (above : ℕ → Bool) {b : ℕ} → b ≡ blocking_of tasks i above
    → let own = b + (task_at tasks i).execution in (1 ≤ own) × (own ≤ 2 * max_period)
own_fits {i} sound h above e = let r = sound.each i h in (omega arith, omega (arith, blocking_le sound i above, r.period, r.execution))

module _ {tasks : List Task} {i : ℕ} {above : ℕ → Bool} (sound : SoundTasks tasks) where
  -- before the loop
  pub gathered_none : {b room : ℕ} {kept : List ℕ} → i < length tasks → b ≡ blocking_of tasks i above
      → let own = b + (task_at tasks i).execution in GatheredTo tasks i above room 0 own own 0 kept
  gathered_none {b} {room} {kept} h e =
      let fits = own_fits sound h above e in
      record {
        few = omega arith;
        room_for = omega arith;
        inside = below_none (λ k. get_or kept k 0 < length tasks);
        low = omega arith;
        high = omega arith;
        first = sum_start _ every _;
        same = λ w l h. simp sum-none (rw e);
      }

  module _ {room j base start n : ℕ} {kept : List ℕ} (g : GatheredTo tasks i above room j base start n kept) where
    -- one task more
    abbrev t : Task
    t = task_at tasks j

    turn : (w x : ℕ) → 1 ≤ w → w ≤ room → x ≡ pick (above j) (interference t w) 0
        → base + bring tasks i above n kept w + x ≡ own tasks i above + above_bring tasks i above (j + 1) w
    turn w x low high = sum_turn _ _ j above _ x (g.same w low high)

    -- it is not above
    pub gathered_skipped : above j ≡ false → GatheredTo tasks i above room (j + 1) base start n kept
    gathered_skipped off =
        record {
          few = omega (arith, g.few);
          room_for = g.room_for;
          inside = g.inside;
          low = g.low;
          high = omega (arith, g.high);
          first = g.first;
          same = λ w low high. omega (arith, turn w 0 low high (rw off));
        }

    module _ (here : j < length tasks) (on : above j ≡ true) where
      -- it is released once in every window
      pub gathered_once : room + t.jitter ≤ t.period
          → GatheredTo tasks i above room (j + 1) (base + t.execution) (start + t.execution) n kept
      gathered_once early =
          let ranges = sound.each j here in
          record {
            few = omega (arith, g.few);
            room_for = g.room_for;
            inside = g.inside;
            low = omega (arith, g.low);
            high = omega (arith, g.high, ranges.period, ranges.execution);
            first = omega (arith, g.first);
            same = λ w low high.
                let once = interference_once t w low (omega (arith, early, high)) in
                omega (arith, turn w (interference t w) low high (rw on), once);
          }

      -- it is kept: written after the n
      module _ (fits : n < length kept) where
        abbrev next : List ℕ
        next = set kept n j

        same_index : (k : ℕ) → k < n → get_or next k 0 ≡ get_or kept k 0
        same_index k h = get_or-set_other kept n k j 0 (λ e. absurd (omega (arith, e)))

        written : get_or next n 0 ≡ j
        written = get_or-set_same kept n j 0 fits

        below : (k : ℕ) → k < n → get_or next k 0 < length tasks
        below k h = omega (arith, same_index k h, g.inside k h)

        brings : (w : ℕ) → bring tasks i above n next w ≡ bring tasks i above n kept w
        brings w = sum_cong n every _ _ (λ k h. ap (λ (m : ℕ). interference (task_at tasks m) w) (same_index k h))

        brings_more : (w : ℕ) → bring tasks i above (n + 1) next w ≡ bring tasks i above n kept w + interference t w
        brings_more w =
            let last : interference (kept_at tasks next n) w ≡ interference t w = rw written in
            omega (arith, sum_more n every (λ k. interference (kept_at tasks next k) w), brings w, last)

        pub gathered_kept : GatheredTo tasks i above room (j + 1) base (start + t.execution) (n + 1) next
        gathered_kept =
            let ranges = sound.each j here in
            let once = interference_once t 1 (omega arith) (omega (arith, ranges.jitter)) in
            record {
              few = omega (arith, g.few);
              room_for = omega (arith, fits, length-set kept n j);
              inside = below_more (λ k. get_or next k 0 < length tasks) n below (omega (arith, written, here));
              low = g.low;
              high = omega (arith, g.high, ranges.period, ranges.execution);
              first = omega (arith, g.first, brings_more 1, once);
              same = λ w low high. omega (arith, turn w (interference t w) low high (rw on), brings_more w);
            }

    -- at its end they stand for the demand
    pub gathered_all : j ≡ length tasks → StandsFor tasks i above room base (take n kept) start
    unfolding demand
    gathered_all end =
        let brought = load_front base tasks kept n g.room_for in
        record {
          is_load =
              record {
                sound = sound;
                low = g.low;
                high = omega (arith, g.first, g.high, sound.few);
                few = omega (arith, length-take-le n kept g.room_for, g.few, sound.few);
                inside = λ k h.
                    let under : k < n = omega (arith, length-take-le n kept g.room_for) in
                    omega (arith, get_or-take n kept k 0 under, g.inside k under);
              };
          starts = omega (arith, g.first, brought 1);
          same = λ w low high. omega (arith, rw end at (g.same w low high), brought w);
        }

-- ---- demand at 1

-- the sum of the task's own need and of the first j tasks above
pub record StartsWith (tasks : List Task) (i : ℕ) (above : ℕ → Bool) (j start : ℕ) : Type 0 where
  pub high : start ≤ (j + 2) * max_period
  pub is : start ≡ own tasks i above + above_bring tasks i above j 1

module _ {tasks : List Task} {i : ℕ} {above : ℕ → Bool} (sound : SoundTasks tasks) where
  pub starts_none : {b : ℕ} → i < length tasks → b ≡ blocking_of tasks i above
      → StartsWith tasks i above 0 (b + (task_at tasks i).execution)
  starts_none {b} h e =
      let fits = own_fits sound h above e in
      record { high = omega arith; is = rw e (sum_start (own tasks i above) above _) }

  module _ {j start : ℕ} (g : StartsWith tasks i above j start) where
    pub starts_skipped : above j ≡ false → StartsWith tasks i above (j + 1) start
    starts_skipped off =
        record {
          high = omega (arith, g.high);
          is = omega (arith, sum_turn start (own tasks i above) j above _ 0 g.is (rw off));
        }

    pub starts_more : j < length tasks → above j ≡ true → StartsWith tasks i above (j + 1) (start + (task_at tasks j).execution)
    starts_more here on =
        let ranges = sound.each j here in
        let once = interference_once (task_at tasks j) 1 (omega arith) (omega (arith, ranges.jitter)) in
        record {
          high = omega (arith, g.high, ranges.period, ranges.execution);
          is = omega (arith, once, sum_turn start (own tasks i above) j above _ (interference (task_at tasks j) 1) g.is (rw on));
        }

    pub starts_all : j ≡ length tasks → start ≡ demand tasks i above 1
    unfolding demand
    starts_all end = rw end at g.is
