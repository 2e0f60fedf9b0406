-- Two tasks of one period side by side ask no more than their join: where the joined tasks meet their deadlines, so do the two, the
-- one above the other, and everybody else. Assumes nothing.
use Rattle.std.specs.Prelude.{Option, Some, None}
use Rattle.std.specs.Prelude.{◌≡◌, refl, Bool, true, false, List, ◌⊎◌, ℕ, suc, ◌+◌, ◌-◌, ◌≤◌, ◌<◌, T, max, min, length, set}
use Rattle.std.proofs.Common.{sym, ap, ap₂, subst, ◌∙◌, inl, inr, ⊎_elim, le_refl, le_trans, lt_of_lt_of_le, eq-or-lt_of_le, arith, add_comm, mul-add, mul-le-mul_left, mul-le-mul_right, ltb→lt, lt→ltb, get_or-set_same, get_or-set_other, length-set}
use Rattle.std.proofs.Math.Nat.{min_comm, max_comm}
use Rattle.std.proofs.Math.Path.{fun_ext}
use Rattle.std.proofs.lemmas.Bool.{cases_eq}
use Rattle.std.proofs.lemmas.List.Edits.{length-remove, get_or-remove_below, get_or-remove_above}
use Rattle.sets.specs.Choice.{pick, T→true, refuted→false, same_test, lt_or_le}
use Rattle.sets.specs.Bounded.{without, without_still, without_other}
use Rattle.sets.specs.Sum.{sum, sum_into, sum_with}
use Rattle.sets.specs.Marks.{table, get_or-table}
use Rattle.taskset.specs.declared.Task.{Task}
use Rattle.taskset.specs.Refusals.{resources, section_on}
use Rattle.taskset.specs.Model.{no_task, task_at, SoundTasks}
use Rattle.response.specs.Equation.{releases, interference, demand, Says, response_of}
use Rattle.response.specs.Agreement.{response_says}
use Rattle.response.specs.Blocking.{MayBlock, blocking_of}
use Rattle.response.proofs.BlockingLaws.{blocking_exactly}
use Rattle.response.proofs.Demand.{ceil_mono, interference_once}
use Rattle.assignment.specs.Orders.{MeetsDeadline}
use Rattle.joining.specs.Joining.{joint, joined_tasks}
use Rattle.joining.proofs.PlaceLaws.{new, new_under, new_over, two_places, low-lt, new_upper, new_lower, new_two, new_same, new_below}

-- ---- a row that asks for no less than another of its period

record CoveredBy (t s : Task) : Type 0 where
  period : t.period ≡ s.period
  execution : t.execution ≤ s.execution
  deadline : s.deadline ≤ t.deadline
  jitter : t.jitter ≤ s.jitter
  sections : (k : ℕ) → k < resources → section_on t k ≤ section_on s k

covers_itself : (t : Task) → CoveredBy t t
covers_itself t = record {
  period = refl;
  execution = le_refl t.execution;
  deadline = le_refl t.deadline;
  jitter = le_refl t.jitter;
  sections = λ k h. le_refl (section_on t k);
}

-- brings no less
releases_covered : {t s : Task} → CoveredBy t s → (v : ℕ) → releases t v ≤ releases s v
releases_covered {t} {s} c v = rw c.period (ceil_mono (v + t.jitter) (v + s.jitter) s.period (omega (arith, c.jitter)))

interference_covered : {t s : Task} → CoveredBy t s → (v : ℕ) → interference t v ≤ interference s v
unfolding interference
interference_covered {t} {s} c v =
    le_trans (mul-le-mul_left (releases t v) c.execution) (mul-le-mul_right s.execution (releases_covered c v))

-- nor than two such rows together, where it has the execution time of both
interference_both : {one other join : Task} → CoveredBy one join → CoveredBy other join → join.execution ≡ one.execution + other.execution
    → (v : ℕ) → interference one v + interference other v ≤ interference join v
unfolding interference
interference_both {one} {other} {join} c d both v =
    let first = mul-le-mul_right one.execution (releases_covered c v) in
    let second = mul-le-mul_right other.execution (releases_covered d v) in
    rw both (omega (arith, first, second, mul-add (releases join v) one.execution other.execution))

-- the joint of two rows covers the one; and it is the same either way round
joint_covers : (one other : Task) → CoveredBy one (joint one other)
unfolding joint section_on
joint_covers one other = record {
  period = refl;
  execution = omega arith;
  deadline = omega arith;
  jitter = omega arith;
  sections = λ k h. omega (arith, get_or-table resources (λ k. max (section_on one k) (section_on other k)) 0 k h);
}

joint_swap : (one other : Task) → one.period ≡ other.period → joint one other ≡ joint other one
unfolding joint
joint_swap one other period =
    let longer : Task → Task → List ℕ = λ s t. table resources (λ k. max (section_on s k) (section_on t k)) in
    let sections : longer one other ≡ longer other one =
    ap (table resources) (fun_ext (λ k. max_comm (section_on one k) (section_on other k))) in
    rw (sections, period, add_comm one.execution other.execution, min_comm one.deadline other.deadline, max_comm one.jitter other.jitter)
    refl

-- ---- the joined tasks

module _ (tasks : List Task) (u w : ℕ) where
  abbrev pub rows : List Task
  rows = joined_tasks (min u w) (max u w) tasks

  abbrev place : ℕ → ℕ
  place = new u w

  abbrev joint_of : ℕ → ℕ → Task
  joint_of i j = joint (task_at tasks i) (task_at tasks j)

  -- the tasks above task i, and those above where it stands afterwards: the upper of the two, u, is above the lower, w, and
  -- everybody else is above whom he was
  pub record Sides (i : ℕ) (above higher : ℕ → Bool) : Type 0 where
    pub agree : (j : ℕ) → j < length tasks → (place i ≡ place j → ⊥) → above j ≡ higher (place j)
    pub itself : T (above i) → ⊥
    pub upper : i ≡ u → T (above w) → ⊥
    pub lower : i ≡ w → T (above u)

  module _ (apart : u ≡ w → ⊥) (here : u < length tasks) (there : w < length tasks) where
    -- with the join in the smaller place, and the larger not yet removed
    abbrev placed : List Task
    placed = set tasks (min u w) (joint_of (min u w) (max u w))

    placed_length : length placed ≡ length tasks
    placed_length = length-set tasks (min u w) (joint_of (min u w) (max u w))

    placed_high : max u w < length placed
    placed_high = omega (arith, placed_length)

    pub rows_length : length tasks ≡ suc (length rows)
    rows_length = omega (arith, length-remove placed (max u w) placed_high, placed_length)

    pub row_joint : task_at rows (min u w) ≡ joint (task_at tasks (min u w)) (task_at tasks (max u w))
    row_joint =
        get_or-remove_below placed (max u w) no_task (min u w) (low-lt u w apart) placed_high
        ∙ get_or-set_same tasks (min u w) _ no_task (omega arith)

    pub row_stays : (j : ℕ) → (j ≡ u → ⊥) → (j ≡ w → ⊥) → task_at rows (place j) ≡ task_at tasks j
    row_stays j not_u not_w = ⊎_elim under over (lt_or_le j (max u w)) ∙ get_or-set_other tasks (min u w) j _ no_task not_low
      where
        not_low : j ≡ min u w → ⊥
        not_low e = ⊎_elim (λ p. not_u (e ∙ sym p.0)) (λ p. not_w (e ∙ sym p.1)) (two_places u w apart)

        not_high : j ≡ max u w → ⊥
        not_high e = ⊎_elim (λ p. not_w (e ∙ sym p.1)) (λ p. not_u (e ∙ sym p.0)) (two_places u w apart)

        under : j < max u w → task_at rows (place j) ≡ task_at placed j
        under l = rw (new_under (min u w) (max u w) j l) (get_or-remove_below placed (max u w) no_task j l placed_high)

        over : max u w ≤ j → task_at rows (place j) ≡ task_at placed j
        over g =
            let past : max u w < j = ⊎_elim (λ e. absurd (not_high (sym e))) (λ l. l) (eq-or-lt_of_le g) in
            let back : j - 1 + 1 ≡ j = omega arith in
            rw (new_over (min u w) (max u w) j past) (rw back at (get_or-remove_above placed (max u w) no_task (j - 1) (omega arith) placed_high))

    new_inside : (j : ℕ) → j < length tasks → place j < length rows
    new_inside = rw rows_length (new_below u w apart (length rows) (rw (← rows_length) here) (rw (← rows_length) there))

    module _ (period : (task_at tasks u).period ≡ (task_at tasks w).period) where
      -- the join is that of the upper and the lower, covers both, and takes as long as both
      pub row_two : task_at rows (min u w) ≡ joint_of u w
      row_two =
          row_joint
          ∙ ⊎_elim (λ p. sym (ap₂ joint_of p.0 p.1)) (λ p. sym (joint_swap (task_at tasks u) (task_at tasks w) period ∙ ap₂ joint_of p.1 p.0))
          (two_places u w apart)

      covers_upper : CoveredBy (task_at tasks u) (task_at rows (min u w))
      covers_upper = rw row_two (joint_covers (task_at tasks u) (task_at tasks w))

      covers_lower : CoveredBy (task_at tasks w) (task_at rows (min u w))
      covers_lower = rw (row_two, joint_swap (task_at tasks u) (task_at tasks w) period) (joint_covers (task_at tasks w) (task_at tasks u))

      execution_both : (task_at rows (min u w)).execution ≡ (task_at tasks u).execution + (task_at tasks w).execution
      unfolding joint
      execution_both = ap (λ (t : Task). t.execution) row_two

      -- so where a task stands afterwards, a row covers its own
      covered : (j : ℕ) → CoveredBy (task_at tasks j) (task_at rows (place j))
      covered j =
          ⊎_elim (λ e. rw e (rw (new_upper u w apart) covers_upper))
          (λ a.
          ⊎_elim (λ e. rw e (rw (new_lower u w apart) covers_lower)) (λ b. rw (row_stays j a b) (covers_itself (task_at tasks j)))
          (cases_eq j w))
          (cases_eq j u)

      module _ (sound : SoundTasks tasks) (i : ℕ) (above higher : ℕ → Bool) (sides : Sides i above higher) where
        -- ---- blocking

        -- a section that may block task i is no longer than the joined blocking, if its holder stands elsewhere afterwards
        holds_up : (section : ℕ) (m : MayBlock tasks i above section) → (place i ≡ place m.holder → ⊥)
            → section ≤ blocking_of rows (place i) higher
        holds_up section m other =
            let k = m.resource in
            let longest = ((blocking_exactly rows (place i) higher (blocking_of rows (place i) higher)).1 refl).longest in
            le_trans (rw (← m.held) ((covered m.holder).sections k m.known))
            (longest (section_on (task_at rows (place m.holder)) k)
            (record {
              holder = place m.holder;
              inside = new_inside m.holder m.inside;
              not_above = λ t. m.not_above (rw (sides.agree m.holder m.inside other) t);
              not_itself = λ e. other (sym e);
              resource = k;
              known = m.known;
              held = refl;
              user = place m.user;
              near = ⊎_elim (λ e. inl (ap place e))
                  (λ (h : (m.user < length tasks) × T (above m.user)).
                  ⊎_elim (λ e. inl (sym e)) (λ out. inr (new_inside m.user h.0, rw (← sides.agree m.user h.0 out) h.1))
                  (cases_eq (place i) (place m.user)))
                  m.near;
              used = lt→ltb 0 _ (lt_of_lt_of_le (ltb→lt 0 _ m.used) ((covered m.user).sections k m.known));
            }))

        -- so its blocking is no longer, or it is the upper one and a section of the lower blocks it
        abbrev Less : Type 0
        Less = (blocking_of tasks i above ≤ blocking_of rows (place i) higher)
            ⊎ ((i ≡ u) × (blocking_of tasks i above ≤ (task_at tasks w).execution))

        beside_blocking : Less
        beside_blocking =
            ⊎_elim (λ z. inl (omega arith))
            (λ m. ⊎_elim (same m) (λ out. inl (holds_up (blocking_of tasks i above) m out)) (cases_eq (place i) (place m.holder)))
            ((blocking_exactly tasks i above (blocking_of tasks i above)).1 refl).found
          where
            same : (m : MayBlock tasks i above (blocking_of tasks i above)) → place i ≡ place m.holder → Less
            same m e =
                ⊎_elim (λ f. absurd (m.not_itself (sym f)))
                (⊎_elim (λ p. inr (p.0, rw (← m.held, p.1) ((sound.each w there).sections m.resource m.known)))
                (λ p. absurd (m.not_above (rw p.1 (sides.lower p.0)))))
                (new_same u w apart i m.holder e)

        -- ---- demand, at a window whose response meets the joined deadline

        module _ (v : ℕ) (low : 1 ≤ v) (fits : (task_at rows (place i)).jitter + v ≤ (task_at rows (place i)).deadline) where
          abbrev brings : List Task → ℕ → ℕ
          brings list j = interference (task_at list j) v

          -- those above other than the two
          abbrev rest : ℕ → Bool
          rest = without (without above u) w

          abbrev rest_joined : ℕ → Bool
          rest_joined = without higher (min u w)

          rest_le : sum (length tasks) rest (brings tasks) ≤ sum (length rows) rest_joined (brings rows)
          rest_le =
              sum_into (length tasks) (length rows) rest rest_joined (brings tasks) (brings rows) place
              (λ j h t. (new_inside j h, still_there j h (third j t), interference_covered (covered j) v))
              (λ k j h l s t. alone k j (third j t))
            where
              Third : ℕ → Type 0
              Third j = T (above j) × (u ≡ j → ⊥) × (w ≡ j → ⊥)

              third : (j : ℕ) → T (rest j) → Third j
              third j t =
                  let still = without_still (without above u) w j t in
                  let first = without_still above u j still.0 in
                  (first.0, first.1, still.1)

              alone : (k j : ℕ) → Third j → place k ≡ place j → k ≡ j
              alone k j o e =
                  ⊎_elim (λ f. f) (⊎_elim (λ p. absurd (o.2 (sym p.1))) (λ p. absurd (o.1 (sym p.1)))) (new_same u w apart k j e)

              still_there : (j : ℕ) → j < length tasks → Third j → T (rest_joined (place j))
              still_there j h o =
                  without_other higher (min u w) (place j)
                  (λ e. ⊎_elim (λ f. o.1 (sym f)) (λ f. o.2 (sym f)) (new_two u w apart j (sym e)))
                  (subst T (sides.agree j h (λ e. sides.itself (rw (alone i j o e) o.0))) o.0)

          -- task i's own part, with what the two bring
          abbrev part : ℕ
          part = blocking_of tasks i above + (task_at tasks i).execution + pick (above u) (brings tasks u) 0 + pick (above w) (brings tasks w) 0

          abbrev part_joined : ℕ
          part_joined =
              blocking_of rows (place i) higher + (task_at rows (place i)).execution + pick (higher (min u w)) (brings rows (min u w)) 0

          part_le : part ≤ part_joined
          part_le = ⊎_elim upper (λ a. ⊎_elim lower (neither a) (cases_eq i w)) (cases_eq i u)
            where
              takes : ℕ → ℕ
              takes j = (task_at tasks j).execution

              joined : place i ≡ min u w → (task_at rows (place i)).execution ≡ takes u + takes w
              joined e = rw e execution_both

              upper : i ≡ u → part ≤ part_joined
              upper e =
                  let both = joined (rw e (new_upper u w apart)) in
                  rw (refuted→false (above u) (λ t. sides.itself (rw e t)), refuted→false (above w) (sides.upper e))
                  (⊎_elim (λ h. omega (arith, h, ap takes e, both)) (λ p. omega (arith, p.1, ap takes e, both)) beside_blocking)

              lower : i ≡ w → part ≤ part_joined
              lower e =
                  let stands : place i ≡ min u w = rw e (new_lower u w apart) in
                  let short : (task_at rows (min u w)).jitter + v ≤ (task_at rows (min u w)).deadline = rw stands at fits in
                  let once = interference_once (task_at tasks u) v low
                  (omega (arith, short, covers_upper.jitter, covers_upper.deadline, (sound.each u here).deadline.1)) in
                  rw (T→true (above u) (sides.lower e), refuted→false (above w) (λ t. sides.itself (rw e t)))
                  (⊎_elim (λ h. omega (arith, h, ap takes e, joined stands, once)) (λ p. absurd (apart (sym p.0 ∙ e))) beside_blocking)

              picked : (b : Bool) → pick b (brings tasks u) 0 + pick b (brings tasks w) 0 ≤ pick b (brings rows (min u w)) 0
              picked true = interference_both covers_upper covers_lower execution_both v
              picked false = le_refl 0

              neither : (i ≡ u → ⊥) → (i ≡ w → ⊥) → part ≤ part_joined
              neither a b =
                  let away : place i ≡ min u w → ⊥ = λ e. ⊎_elim a b (new_two u w apart i e) in
                  let same : (j : ℕ) → j < length tasks → place j ≡ min u w → above j ≡ higher (min u w) =
                  λ j h e. sides.agree j h (λ f. away (f ∙ e)) ∙ ap higher e in
                  rw (same u here (new_upper u w apart), same w there (new_lower u w apart))
                  (⊎_elim (λ h. omega (arith, h, (covered i).execution, picked (higher (min u w)))) (λ p. absurd (a p.0)) beside_blocking)

          beside_demand : demand tasks i above v ≤ demand rows (place i) higher v
          unfolding demand
          beside_demand =
              let same = same_test (without above u w) (above w) (λ t. (without_still above u w t).0) (without_other above u w apart) in
              omega (
                arith,
                rest_le,
                part_le,
                sum_with (length tasks) above (brings tasks) u here,
                rw same at (sum_with (length tasks) (without above u) (brings tasks) w there),
                sum_with (length rows) higher (brings rows) (min u w) (omega (arith, low-lt u w apart, rows_length)),
              )

      pub beside_meets : SoundTasks tasks → (i : ℕ) (above higher : ℕ → Bool) → Sides i above higher
          → MeetsDeadline rows (place i) higher → MeetsDeadline tasks i above
      beside_meets sound i above higher sides (v, window, fits) =
          go (response_of d own.jitter own.deadline) (response_says d own.jitter own.deadline)
        where
          d : ℕ → ℕ
          d = demand tasks i above

          own : Task
          own = task_at tasks i

          met : d v ≤ v
          met = le_trans (beside_demand sound i above higher sides v window.low fits) window.met

          go : (a : Option ℕ) → Says d own.jitter own.deadline a → MeetsDeadline tasks i above
          go (Some r) s = (s.0, s.1, omega (arith, s.2, s.3))
          go None s = absurd (omega (arith, s v window.low met, fits, (covered i).jitter, (covered i).deadline))
