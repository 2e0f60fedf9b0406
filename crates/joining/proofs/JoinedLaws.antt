-- The joined lists: adding takes them, and their orders give orders of the old ones. Assumes nothing.
use Rattle.std.specs.Prelude.{◌≡◌, refl, Bool, ◌↔◌, List, ℕ, suc, ◌+◌, ◌<◌, T, max, min, length}
use Rattle.std.specs.List.{list_any}
use Rattle.std.proofs.Common.{sym, ap, subst, ◌∙◌, inl, inr, ⊎_elim, arith, ltb→lt, lt→ltb}
use Rattle.std.proofs.Math.Nat.{min_comm, max_comm}
use Rattle.std.proofs.lemmas.Bool.{cases_eq}
use Rattle.sets.specs.Choice.{or_left, or_right, or_elim, decided, lt_or_le, not→refuted, refuted→not}
use Rattle.sets.specs.Bounded.{count, count-lt}
use Rattle.sets.specs.Rank.{rank}
use Rattle.sets.specs.Collected.{collected_length, collected_few, collected_at, collected_entry}
use Rattle.sets.specs.Marks.{length-table, get_or-table}
use Rattle.taskset.specs.declared.Task.{Task}
use Rattle.taskset.specs.declared.Rule.{Rule}
use Rattle.taskset.specs.Refusals.{resources, section_on, InRanges, Between, Weighed}
use Rattle.taskset.specs.Model.{Lists, task_at, rule_at, blank_rule, Sectioned, Sound}
use Rattle.assignment.specs.Orders.{hp, Keeps, every_rule, Valid, ValidOrder, MeetsDeadline}
use Rattle.joining.specs.Joining.{joint, puts, is_between, renamed, stays, joined_rules, joined}
use Rattle.joining.specs.SideBySide.{side_by_side}
use Rattle.joining.specs.Joins.{Two, OnePeriod, Ruled, PastPeriod, IsBetween, IsJoint, Way, AreJoined, Joinable}
use Rattle.joining.proofs.PlaceLaws.{new, old, two_places, new_upper, new_lower, new_same, new_old, new_below, old_below}
use Rattle.joining.proofs.SideBySideLaws.{beside_before, beside_next, beside_order, beside_hp}
use Rattle.joining.proofs.JoinedDemand.{rows, rows_length, row_joint, row_two, row_stays, Sides, beside_meets}
use Rattle.joining.proofs.RefusingLaws.{puts_is, ruled_is}

-- ---- rules

between_is : (u w : ℕ) → (u ≡ w → ⊥) → (r : Rule) → T (is_between (min u w) (max u w) r) ↔ IsBetween u w r
between_is u w apart r =
    let one = puts_is u w r in
    let other = puts_is w u r in
    ⊎_elim
    (λ p. rw (← p.0, ← p.1) (
      λ t. ⊎_elim (λ a. inl (one.0 a)) (λ b. inr (other.0 b)) (or_elim _ _ t),
      ⊎_elim (λ a. or_left _ _ (one.1 a)) (λ b. or_right _ _ (other.1 b)),
    ))
    (λ p. rw (← p.0, ← p.1) (
      λ t. ⊎_elim (λ a. inr (other.0 a)) (λ b. inl (one.0 b)) (or_elim _ _ t),
      ⊎_elim (λ a. or_right _ _ (one.1 a)) (λ b. or_left _ _ (other.1 b)),
    ))
    (two_places u w apart)

-- ---- of two tasks, in either order

module _ (l : Lists) (u w : ℕ) (two : Two l u w) where
  abbrev new_lists : Lists
  new_lists = joined (min u w) (max u w) l

  abbrev new_rows : List Task
  new_rows = rows l.tasks u w

  abbrev new_rules : List Rule
  new_rules = joined_rules (min u w) (max u w) l.rules

  abbrev remain : ℕ → Bool
  remain = stays (min u w) (max u w) l.rules

  abbrev name : ℕ → Rule
  name k = renamed (min u w) (max u w) (rule_at l.rules k)

  abbrev place : ℕ → ℕ
  place = new u w

  -- a rule that stays, with its new names and at its new place
  staying : (k : ℕ) → k < length l.rules → T (remain k)
      → (count k remain < length new_rules) × (rule_at new_rules (count k remain) ≡ name k)
  staying k h t = (
    omega (arith, collected_length remain name (length l.rules), count-lt (length l.rules) remain k h t),
    collected_at remain name (length l.rules) k blank_rule h t,
  )

  length_is : length l.tasks ≡ suc (length new_rows)
  length_is = rows_length l.tasks u w two.apart two.one two.other

  one_inside : u < suc (length new_rows)
  one_inside = rw (← length_is) two.one

  other_inside : w < suc (length new_rows)
  other_inside = rw (← length_is) two.other

  place_inside : (j : ℕ) → j < length l.tasks → place j < length new_rows
  place_inside = rw length_is (new_below u w two.apart (length new_rows) one_inside other_inside)

  -- what holds of the join and of each old row holds of each row of theirs
  each_new_row : (P : Task → Type 0) → P (task_at new_rows (min u w)) → ((j : ℕ) → j < length l.tasks → P (task_at l.tasks j))
      → (x : ℕ) → x < length new_rows → P (task_at new_rows x)
  each_new_row P join others x h = ⊎_elim (λ e. rw e join) away (cases_eq x (min u w))
    where
      back : place (old u w x) ≡ x
      back = new_old u w two.apart x

      away : (x ≡ min u w → ⊥) → P (task_at new_rows x)
      away other =
          rw back at
          (subst P
          (sym (row_stays l.tasks u w two.apart two.one two.other (old u w x)
          (λ e. other (sym back ∙ ap place e ∙ new_upper u w two.apart))
          (λ e. other (sym back ∙ ap place e ∙ new_lower u w two.apart))))
          (others (old u w x) (rw length_is (old_below u w two.apart (length new_rows) one_inside other_inside x h))))

  -- a rule of theirs is one that stays, renamed
  rule_is : (i : ℕ) → i < length new_rules → (k : ℕ) × (k < length l.rules) × T (remain k) × (rule_at new_rules i ≡ name k)
  rule_is i h =
      let e = collected_entry remain name (length l.rules) i h in
      (e.0, e.1, e.2, ap (rule_at new_rules) (sym e.3) ∙ (staying e.0 e.1 e.2).1)

  module _ (sound : Sound l) (period : OnePeriod l u w) where
    join_is : task_at new_rows (min u w) ≡ joint (task_at l.tasks u) (task_at l.tasks w)
    join_is = row_two l.tasks u w two.apart two.one two.other period

    -- ---- adding takes them

    module _ (fits : PastPeriod l u w → ⊥) where
      join_ranges : InRanges (joint (task_at l.tasks u) (task_at l.tasks w))
      unfolding joint section_on
      join_ranges =
          let one = sound.tasks.each u two.one in
          let other = sound.tasks.each w two.other in
          let short = ⊎_elim (λ over. absurd (fits over)) (λ le. le)
          (lt_or_le (task_at l.tasks u).period ((task_at l.tasks u).execution + (task_at l.tasks w).execution)) in
          record {
            period = one.period;
            execution = (omega (arith, one.execution), short);
            deadline = (omega (arith, one.deadline, other.deadline), omega (arith, one.deadline));
            jitter = omega (arith, one.jitter, other.jitter, period);
            sections = λ k h.
                let longer = get_or-table resources (λ j. max (section_on (task_at l.tasks u) j) (section_on (task_at l.tasks w) j)) 0 k h in
                omega (arith, longer, one.sections k h, other.sections k h);
          }

      rule_between : (i : ℕ) → i < length new_rules → Between (length new_rows) (rule_at new_rules i)
      rule_between i h =
          let (k, inside, stays_k, e) = rule_is i h in
          let b = sound.indices k inside in
          let r = rule_at l.rules k in
          let out = λ (t : T (is_between (min u w) (max u w) r)). not→refuted (is_between (min u w) (max u w) r) stays_k t in
          rw e
          (record {
            apart = λ same. ⊎_elim b.apart (λ p. out ((between_is u w two.apart r).1 p)) (new_same u w two.apart r.higher.0 r.lower.0 same);
            higher = place_inside r.higher.0 b.higher;
            lower = place_inside r.lower.0 b.lower;
          })

      rule_weighed : (i : ℕ) → i < length new_rules → Weighed (rule_at new_rules i)
      rule_weighed i h =
          let (k, inside, stays_k, e) = rule_is i h in
          let ok = sound.weights k inside in
          rw e (record { least = omega (arith, ok.least); most = omega (arith, ok.most) })

      pub joined_sound : Sound new_lists
      unfolding joined
      joined_sound =
          record {
            tasks = record { few = omega (arith, length_is, sound.tasks.few); each = each_new_row InRanges (rw join_is join_ranges) sound.tasks.each };
            few_rules =
                omega (arith, collected_few remain name (length l.rules), sound.few_rules);
            indices = rule_between;
            weights = rule_weighed;
          }

    -- ---- an order of theirs gives one of the old ones

    module _ (free : Ruled l w u → ⊥) (order : List ℕ) (valid : ValidOrder new_lists every_rule order) where
      valid_there : Valid (length new_rows) new_rules (MeetsDeadline new_rows) every_rule order
      unfolding joined
      valid_there = valid

      pub straight_after : rank (side_by_side u w order) w ≡ suc (rank (side_by_side u w order) u)
      straight_after = beside_next u w two.apart order (valid_there.is_order.every (min u w) (omega (arith, length_is, two.one, two.other)))

      upper_first : rank (side_by_side u w order) u < rank (side_by_side u w order) w
      upper_first = omega (arith, straight_after)

      keeps : (k : ℕ) → k < length l.rules → Keeps (side_by_side u w order) (rule_at l.rules k)
      keeps k h = ⊎_elim within across (decided (is_between (min u w) (max u w) (rule_at l.rules k)))
        where
          within : T (is_between (min u w) (max u w) (rule_at l.rules k)) → Keeps (side_by_side u w order) (rule_at l.rules k)
          within t =
              ⊎_elim (λ e. rw (e.0, e.1) upper_first) (λ e. absurd (free (k, h, e))) ((between_is u w two.apart (rule_at l.rules k)).0 t)

          across : (T (is_between (min u w) (max u w) (rule_at l.rules k)) → ⊥) → Keeps (side_by_side u w order) (rule_at l.rules k)
          across out =
              let there = staying k h (refuted→not _ out) in
              beside_before u w two.apart order (rule_at l.rules k).higher.0 (rule_at l.rules k).lower.0
              (subst (Keeps order) there.1 (valid_there.keeps (count k remain) there.0 tt))

      sides : (i : ℕ) → i < length l.tasks → Sides l.tasks u w i (hp (side_by_side u w order) i) (hp order (place i))
      sides i h =
          record {
            agree = λ j l other. beside_hp u w two.apart (length new_rows) one_inside other_inside valid_there.is_order i j (rw (← length_is) h) (rw (← length_is) l) other;
            itself = λ t. omega (arith, ltb→lt _ _ t);
            upper = λ e t. let below = ltb→lt (rank (side_by_side u w order) w) (rank (side_by_side u w order) i) t in omega (arith, below, upper_first, ap (rank (side_by_side u w order)) e);
            lower = λ e. lt→ltb _ _ (omega (arith, upper_first, ap (rank (side_by_side u w order)) e));
          }

      pub beside_valid : ValidOrder l every_rule (side_by_side u w order)
      beside_valid =
          record {
            is_order =
                rw length_is
                (beside_order u w two.apart (length new_rows) one_inside other_inside valid_there.is_order);
            keeps = λ k h on. keeps k h;
            meets = λ i h.
                beside_meets l.tasks u w two.apart two.one two.other period sound.tasks i (hp (side_by_side u w order) i) (hp order (place i)) (sides i h)
                (valid_there.meets (place i) (place_inside i h));
          }

-- ---- so they are the joined lists

is_joint : (one other : Task) → one.period ≡ other.period → IsJoint one other (joint one other)
unfolding joint section_on
is_joint one other period =
    record {
      period = (refl, period);
      execution = refl;
      deadline = refl;
      jitter = refl;
      sections = get_or-table resources (λ k. max (section_on one k) (section_on other k)) 0;
    }

-- either way round of the two
turned : {l : Lists} {p q u w : ℕ} → Way l p q u w → joined (min p q) (max p q) l ≡ joined (min u w) (max u w) l
turned {l} {p} {q} way = ⊎_elim (λ e. rw (e.0, e.1) refl) (λ e. rw (e.0, e.1, min_comm p q, max_comm p q) refl) way.places

two_turned : {l : Lists} {p q u w : ℕ} → Way l p q u w → Two l p q → OnePeriod l p q → Two l u w × OnePeriod l u w
two_turned way two period =
    ⊎_elim (λ e. rw (e.0, e.1) (two, period))
    (λ e. rw (e.0, e.1) (record { apart = λ s. two.apart (sym s); one = two.other; other = two.one }, sym period)) way.places

pub are_joined : (l : Lists) (p q : ℕ) → Sound l → Joinable l p q → AreJoined l p q (min p q) (max p q) (joined (min p q) (max p q) l)
unfolding joined
are_joined l p q sound ok =
    let two = ok.two in
    let period = ok.period in
    let stays_is = λ (k : ℕ). between_is p q two.apart (rule_at l.rules k) in
    record {
      row = rw (join_is l p q two sound period) (is_joint (task_at l.tasks p) (task_at l.tasks q) period);
      tasks = length_is l p q two;
      others = λ j h a b. row_stays l.tasks p q two.apart two.one two.other j a b;
      stay = λ k. (λ t b. not→refuted _ t ((stays_is k).1 b), λ out. refuted→not _ (λ t. out ((stays_is k).0 t)));
      rules = collected_length (remain l p q two) _ (length l.rules);
      renames = λ k h t. rw (staying l p q two k h t).1 (record { higher = refl; lower = refl; weight = refl });
      orders = λ upper lower way order valid.
          let t = two_turned way two period in
          beside_valid l upper lower t.0 sound t.1 way.against order (subst (λ (m : Lists). ValidOrder m every_rule order) (turned way) valid);
      next = λ upper lower way order valid.
          let t = two_turned way two period in
          straight_after l upper lower t.0 sound t.1 way.against order (subst (λ (m : Lists). ValidOrder m every_rule order) (turned way) valid);
      some_way = ⊎_elim (λ t. inl (record { places = inl (refl, refl); against = λ r. ok.free ((ruled_is l p q).0 t, r) }))
          (λ out. inr (record { places = inr (refl, refl); against = λ r. out ((ruled_is l p q).1 r) }))
          (decided (list_any (puts p q) l.rules));
    }

-- and each row has its eight sections, where each of the old ones does
joint_sectioned : (one other : Task) → length (joint one other).sections ≡ resources
unfolding joint
joint_sectioned one other = length-table resources (λ k. max (section_on one k) (section_on other k))

pub joined_sectioned : (l : Lists) (p q : ℕ) → Two l p q → Sectioned l.tasks → Sectioned (joined (min p q) (max p q) l).tasks
unfolding joined
joined_sectioned l p q two =
    each_new_row l p q two (λ t. length t.sections ≡ resources) (rw (row_joint l.tasks p q two.apart two.one two.other) (joint_sectioned _ _))
