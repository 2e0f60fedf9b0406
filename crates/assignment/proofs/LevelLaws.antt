-- The tasks of a level have one window: that of the one with the most room. Assumes nothing.
use Rattle.std.specs.Prelude.{Option, None, ◌≡◌, refl, Bool, true, false, ◌&&◌, List, ℕ, ◌+◌, ◌≤◌, ◌<◌, T, ltb, length}
use Rattle.std.proofs.Common.{sym, ap, subst, ◌∙◌, ⊎_elim, le_refl, le_of_eq, le_trans, add-one, arith, ltb→lt, lt→ltb}
use Rattle.sets.specs.Choice.{true→T, false→refuted, and_intro, and_left, and_right, lt_or_le}
use Rattle.sets.specs.Bounded.{Subset, without, below_suc}
use Rattle.sets.specs.Marks.{marked}
use Rattle.taskset.specs.declared.Task.{Task}
use Rattle.taskset.specs.Refusals.{max_period}
use Rattle.taskset.specs.Model.{task_at, SoundTasks}
use Rattle.sets.specs.Sum.{sum}
use Rattle.response.specs.Equation.{interference, demand, window_of, Says}
use Rattle.response.specs.Load.{Bounds}
use Rattle.response.specs.Agreement.{met_by, response_says, response_is}
use Rattle.response.specs.Blocking.{blocking_of}
use Rattle.response.specs.Resources.{BlocksEach}
use Rattle.response.proofs.Demand.{demand_left, response_left}
use Rattle.assignment.specs.LevelWindow.{room_of, Windowless, Roomiest, LevelWindow}
use Rattle.assignment.specs.Audsley.{response_at}
use Rattle.assignment.specs.declared.level.OpenLevel.{OpenLevel}
use Rattle.assignment.specs.Views.{candidates_at}

-- ---- who has the most room

module _ (tasks : List Task) (these : ℕ → Bool) (known : ℕ) where
  pub roomiest_none : (m : ℕ) → Roomiest tasks these known 0 m known
  roomiest_none m =
      record { more = le_refl known; each = λ i h. absurd (omega (arith, h)); one = λ h. absurd (omega (arith, h)) }

  module _ (end m most : ℕ) (so_far : Roomiest tasks these known end m most) (room : ℕ) (is : room ≡ room_of tasks end) where
    pub roomiest_more : (these end && ltb most room) ≡ true → Roomiest tasks these known (end + 1) end room
    roomiest_more e =
        let both = true→T (these end && ltb most room) e in
        let more = ltb→lt most room (and_right (these end) _ both) in
        record {
          more = omega (arith, so_far.more, more);
          each = rw (add-one end)
              (below_suc (λ i. T (these i) → room_of tasks i ≤ room) end (λ i h t. le_trans (so_far.each i h t) (omega (arith, more)))
              (λ t. le_of_eq (sym is)));
          one = λ h. (omega arith, and_left (these end) _ both, sym is);
        }

    pub roomiest_same : (these end && ltb most room) ≡ false → Roomiest tasks these known (end + 1) m most
    roomiest_same e =
        record {
          more = so_far.more;
          each = rw (add-one end) (below_suc (λ i. T (these i) → room_of tasks i ≤ most) end so_far.each (λ t. le_trans (le_of_eq (sym is)) (no_more t)));
          one = λ h. let was = so_far.one h in (omega (arith, was.0), was.1, was.2);
        }
      where
        no_more : T (these end) → room ≤ most
        no_more t =
            ⊎_elim (λ more. absurd (false→refuted _ e (and_intro (these end) _ t (lt→ltb most room more)))) (λ h. h) (lt_or_le most room)

-- ---- and what that says

module _ (tasks : List Task) (these left : ℕ → Bool) where
  -- a task that has no more room than is known to hold no window is late
  pub short_late : (known : ℕ) → Windowless tasks these left known → (i : ℕ) → i < length tasks → T (these i) → room_of tasks i ≤ known
      → response_at tasks i (without left i) ≡ None
  short_late known none i h t short =
      let own = task_at tasks i in
      sym
      (response_is (demand tasks i (without left i)) own.jitter own.deadline None
      (λ w low met.
      ⊎_elim (λ past. omega (arith, past)) (λ near. absurd (none i h t w low (omega (arith, near, short)) near met)) (lt_or_le (room_of tasks i) w)))

  -- so where none of these has more, all are
  pub level_none : (known end m most : ℕ) → length tasks ≤ end → Windowless tasks these left known → Roomiest tasks these known end m most
      → most ≡ known → LevelWindow tasks these left None
  level_none known end m most all none is e i h t =
      short_late known none i h t (omega (arith, e, is.each i (omega (arith, h, all)) t))

module _ (tasks : List Task) (sound : SoundTasks tasks) (these left : ℕ → Bool) (are_left : Subset (length tasks) these left) (b : ℕ)
    (blocked : BlocksEach tasks these left b) where
  -- up to the room of a late task no task has a window
  pub late_windowless : (i : ℕ) → i < length tasks → T (these i) → response_at tasks i (without left i) ≡ None
      → Windowless tasks these left (room_of tasks i)
  late_windowless i hi ti late j hj tj w low short room met =
      let mine = sound.each i hi in
      let its = sound.each j hj in
      let own = task_at tasks i in
      let same : demand tasks i (without left i) w ≡ demand tasks j (without left j) w =
      demand_left sound left i hi (are_left i hi ti) w low (omega (arith, short, low, mine.deadline))
      ∙ ap (λ (x : ℕ). x + sum (length tasks) left (λ k. interference (task_at tasks k) w)) (sym (blocked i hi ti) ∙ blocked j hj tj)
      ∙ sym (demand_left sound left j hj (are_left j hj tj) w low (omega (arith, room, low, its.deadline))) in
      let beyond =
      subst (Says (demand tasks i (without left i)) own.jitter own.deadline) late
      (response_says (demand tasks i (without left i)) own.jitter own.deadline) in
      omega (arith, beyond w low (omega (arith, same, met)), short, low)

  module _ (known end m most : ℕ) (whole : end ≡ length tasks) (is : Roomiest tasks these known end m most) (some : known < most) where
    pub roomiest_inside : m < length tasks
    roomiest_inside = omega (arith, whole, (is.one some).0)

    pub roomiest_blocked : b ≡ blocking_of tasks m (without left m)
    roomiest_blocked = blocked m roomiest_inside (is.one some).1

    fits : most + (task_at tasks m).jitter ≤ (task_at tasks m).deadline
    fits = omega (arith, (is.one some).2, some)

    pub roomiest_short : most ≤ max_period
    roomiest_short = let own = sound.each m roomiest_inside in omega (arith, fits, own.deadline, own.period)

    pub roomiest_bounds : Windowless tasks these left known → Bounds (demand tasks m (without left m)) (known + 1)
    roomiest_bounds none v low met =
        ⊎_elim (λ past. omega (arith, past))
        (λ near. absurd (none m roomiest_inside (is.one some).1 v low near (omega (arith, near, some, (is.one some).2)) met)) (lt_or_le known v)

    pub level_roomiest : (window : Option ℕ) → window ≡ window_of (demand tasks m (without left m)) most
        → LevelWindow tasks these left window
    level_roomiest window e i h t =
        let own = sound.each m roomiest_inside in
        response_left sound left i m h (are_left i h t) roomiest_inside (are_left m roomiest_inside (is.one some).1)
        (sym (blocked i h t) ∙ roomiest_blocked)
        (task_at tasks i).deadline most (sound.each i h).deadline.1 (omega (arith, fits, own.deadline)) (is.each i (omega (arith, whole, h)) t)
        ∙ ap (met_by (task_at tasks i).jitter (task_at tasks i).deadline) (sym e)

-- ---- at an open level

module _ (l : OpenLevel) (i : ℕ) (inside : i < length l.tasks.list.now) (is_ready : marked l.ready.now i ≡ true) where
  asked : candidates_at l i ≡ response_at l.tasks.list.now i (without (marked l.left.now) i)
  asked = rw is_ready refl

  -- a ready task that was tried and is late leaves no window in its room
  pub tried_windowless : candidates_at l i ≡ None
      → Windowless l.tasks.list.now (marked l.ready.now) (marked l.left.now) (room_of l.tasks.list.now i)
  tried_windowless late =
      late_windowless l.tasks.list.now l.tasks.sound (marked l.ready.now) (marked l.left.now) (λ j h. l.are_left j h) l.blocking l.blocked
      i inside (true→T _ is_ready) (sym asked ∙ late)

  -- and one that has no more room is late too
  pub short_may_not : (known : ℕ) → Windowless l.tasks.list.now (marked l.ready.now) (marked l.left.now) known
      → room_of l.tasks.list.now i ≤ known → candidates_at l i ≡ None
  short_may_not known none short =
      asked ∙ short_late l.tasks.list.now (marked l.ready.now) (marked l.left.now) known none i inside (true→T _ is_ready) short
