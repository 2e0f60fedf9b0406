-- When joining is refused, and by which number. Assumes nothing.
use Rattle.std.specs.Prelude.{◌≡◌, ◌⊎◌, ◌↔◌, Result, Ok, Err, Bool, not, ◌&&◌, ◌||◌, ℕ, ◌+◌, ◌≤◌, ◌<◌, T, leb, ltb, eqb, length}
use Rattle.std.specs.List.{list_any}
use Rattle.std.specs.Result.{result_and}
use Rattle.std.proofs.Common.{inl, inr, ⊎_elim, eqb→eq, leb→le, le→leb, ltb→lt, lt→ltb}
use Rattle.std.proofs.Math.Dec.{eqb_refl}
use Rattle.sets.specs.Choice.{pick, pick_has, and_intro, and_left, and_right, or_left, or_right, or_elim, decided, lt_or_le, not→refuted, refuted→not}
use Rattle.sets.specs.Bounded.{any_found, any_of, list_any-any}
use Rattle.taskset.specs.declared.Task.{Task}
use Rattle.taskset.specs.declared.Rule.{Rule}
use Rattle.taskset.specs.declared.refusals.Refusal.{Refusal}
use Rattle.taskset.specs.declared.refusals.Refusal.TheVariants.{Execution, DifferentPeriods, BothWays}
use Rattle.taskset.specs.Refusals.{first_of, place_refusals}
use Rattle.taskset.specs.RefusalLaws.{first-append, places_exactly}
use Rattle.taskset.specs.Model.{Lists, task_at, rule_at, blank_rule}
use Rattle.taskset.specs.ChangingLaws.{on_made_14, on_made_lists}
use Rattle.joining.specs.Joining.{puts, join_refusals, join_refusal}
use Rattle.joining.specs.Joins.{Two, OnePeriod, Puts, Ruled, RuledBothWays, PastPeriod, Joinable, JoinAnswer, same_task, no_task, periods, ruled_both_ways, too_long, taken}

-- ---- the tests of a join

module _ (p q : ℕ) (l : Lists) where
  abbrev one : Task
  one = task_at l.tasks p

  abbrev other : Task
  other = task_at l.tasks q

  abbrev missing : Bool
  missing = leb (length l.tasks) p || leb (length l.tasks) q

  abbrev differ : Bool
  differ = not (eqb one.period other.period)

  abbrev both_ways : Bool
  both_ways = list_any (puts p q) l.rules && list_any (puts q p) l.rules

  abbrev past : Bool
  past = ltb one.period (one.execution + other.execution)

  -- what they say
  same_is : T (eqb p q) ↔ (p ≡ q)
  same_is = (eqb→eq p q, λ e. rw e (eqb_refl q))

  missing_is : T missing ↔ ((length l.tasks ≤ p) ⊎ (length l.tasks ≤ q))
  missing_is = (
    λ t. ⊎_elim (λ a. inl (leb→le (length l.tasks) p a)) (λ b. inr (leb→le (length l.tasks) q b)) (or_elim _ _ t),
    λ h. ⊎_elim (λ a. or_left (leb (length l.tasks) p) (leb (length l.tasks) q) (le→leb (length l.tasks) p a)) (λ b. or_right (leb (length l.tasks) p) (leb (length l.tasks) q) (le→leb (length l.tasks) q b)) h,
  )

  differ_is : T differ ↔ (OnePeriod l p q → ⊥)
  differ_is = (
    λ t e. not→refuted (eqb one.period other.period) t (rw e (eqb_refl other.period)),
    λ out. refuted→not _ (λ t. out (eqb→eq one.period other.period t)),
  )

  past_is : T past ↔ PastPeriod l p q
  past_is = (ltb→lt _ _, lt→ltb _ _)

pub puts_is : (u w : ℕ) (r : Rule) → T (puts u w r) ↔ Puts u w r
unfolding puts
puts_is u w r = (
  λ t. (eqb→eq r.higher.0 u (and_left _ _ t), eqb→eq r.lower.0 w (and_right _ _ t)),
  λ e. rw (e.0, e.1) (and_intro _ _ (eqb_refl u) (eqb_refl w)),
)

module _ (l : Lists) where
  pub ruled_is : (higher lower : ℕ) → T (list_any (puts higher lower) l.rules) ↔ Ruled l higher lower
  ruled_is higher lower =
      rw (list_any-any (puts higher lower) l.rules blank_rule) (
        λ t. let r = any_found (length l.rules) _ t in (r.0, r.1, (puts_is higher lower (rule_at l.rules r.0)).0 r.2),
        λ r. any_of (length l.rules) _ r.0 r.1 ((puts_is higher lower (rule_at l.rules r.0)).1 r.2),
      )

  both_is : (p q : ℕ) → T (both_ways p q l) ↔ RuledBothWays l p q
  both_is p q = (
    λ t. ((ruled_is p q).0 (and_left _ _ t), (ruled_is q p).0 (and_right _ _ t)),
    λ r. and_intro _ _ ((ruled_is p q).1 r.0) ((ruled_is q p).1 r.1),
  )

-- ---- the answer

module _ (p q : ℕ) (l : Lists) where
  two_is : (T (eqb p q) → ⊥) → (T (missing p q l) → ⊥) → Two l p q
  two_is apart here =
      record {
        apart = λ e. apart ((same_is p q l).1 e);
        one = ⊎_elim (λ a. a) (λ b. absurd (here ((missing_is p q l).1 (inl b)))) (lt_or_le p (length l.tasks));
        other = ⊎_elim (λ a. a) (λ b. absurd (here ((missing_is p q l).1 (inr b)))) (lt_or_le q (length l.tasks));
      }

  one_period : (T (differ p q l) → ⊥) → OnePeriod l p q
  one_period h = ⊎_elim (eqb→eq _ _) (λ out. absurd (h (refuted→not _ out))) (decided (eqb (one p q l).period (other p q l).period))

  pub refusal_says : JoinAnswer l p q (join_refusal p q l)
  unfolding join_refusals place_refusals
  refusal_says =
      let P = JoinAnswer l p q in
      pick_has P (eqb p q) (λ t. same_task ((same_is p q l).0 t))
      (λ apart.
      pick_has P (missing p q l) (λ t. no_task (λ e. apart ((same_is p q l).1 e)) ((missing_is p q l).0 t))
      (λ here.
      let two = two_is apart here in
      pick_has P (differ p q l) (λ t. periods two ((differ_is p q l).0 t))
      (λ same.
      let period = one_period same in
      pick_has P (both_ways p q l) (λ t. ruled_both_ways two period ((both_is l p q).0 t))
      (λ free.
      let ruled = λ (r : RuledBothWays l p q). free ((both_is l p q).1 r) in
      pick_has P (past p q l) (λ t. too_long two period ruled ((past_is p q l).0 t))
      (λ short. taken (record { two = two; period = period; free = ruled; fits = λ over. short ((past_is p q l).1 over) }))))))

-- what is taken can be joined
pub taken_joinable : (p q : ℕ) (l : Lists) → join_refusal p q l ≡ Ok tt → Joinable l p q
taken_joinable p q l ok = go (join_refusal p q l) (refusal_says p q l) ok
  where
    go : (r : Result (Unit {0}) Refusal) → JoinAnswer l p q r → r ≡ Ok tt → Joinable l p q
    go r (same_task a) e = absurd (cc)
    go r (no_task a b) e = absurd (cc)
    go r (periods a b) e = absurd (cc)
    go r (ruled_both_ways a b c) e = absurd (cc)
    go r (too_long a b c d) e = absurd (cc)
    go r (taken joinable) e = joinable

-- ---- in the code's order: the places first, which are then there

pub join_by : (p q : ℕ) (l : Lists) → join_refusal p q l
    ≡ result_and (first_of (place_refusals (length l.tasks) p q))
    (pick (differ p q l) (Err DifferentPeriods) (pick (both_ways p q l) (Err BothWays) (pick (past p q l) (Err Execution) (Ok tt))))
unfolding join_refusals
join_by p q l = first-append (place_refusals (length l.tasks) p q) _

pub one_there : (n i j : ℕ) → first_of (place_refusals n i j) ≡ Ok tt → i < n
one_there n i j e = ((places_exactly n i j).0 e).1

pub other_there : (n i j : ℕ) → first_of (place_refusals n i j) ≡ Ok tt → j < n
other_there n i j e = ((places_exactly n i j).0 e).2

pub ruleset join_refusing = (on_made_14, on_made_lists, join_by, one_there, other_there)
