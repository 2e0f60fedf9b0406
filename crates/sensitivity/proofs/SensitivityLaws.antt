-- What the answer says. Assumes nothing.
use Rattle.std.specs.Prelude.{Result, Ok, Err, Option, Some, None, ◌≡◌, refl, Bool, true, ◌⊎◌, ◌↔◌, ℕ, ◌+◌, ◌≤◌, ◌<◌, T, leb, length}
use Rattle.std.proofs.Common.{sym, ap, subst, ◌∙◌, ⊎_elim, le_refl, le_antisymm, inl, inr, arith, le→leb, leb→le}
use borrow.Author.Tests.{le-leb, lt-leb}
use Rattle.sets.specs.Choice.{and_intro, and_left, and_right, lt_or_le}
use Rattle.sets.specs.Bounded.{IsGreatest, Greatest, found, nothing, greatest_is}
use Rattle.taskset.specs.declared.Task.{Task}
use Rattle.taskset.specs.declared.TaskSet.{TaskSet}
use Rattle.taskset.specs.declared.refusals.Refusal.{Refusal}
use Rattle.taskset.specs.declared.refusals.Refusal.TheVariants.{NoSuchTask}
use Rattle.taskset.specs.Refusals.{longest_section, section_on}
use Rattle.taskset.specs.Model.{Lists, Sound}
use Rattle.taskset.specs.Adding.{is_made, lists, Made}
use Rattle.taskset.specs.Exact.{made_sound, made_passes}
use Rattle.taskset.specs.ChangingLaws.{on_made_lists}
use Rattle.assignment.specs.Orders.{every_rule, SomeOrder}
use Rattle.sensitivity.specs.Longest.{with_execution, least_execution, least_at, period_at, accepts, passing_from, longest, longest_on, longest_of}
use Rattle.sensitivity.specs.Sensitivity.{Accepted, IsLongest, Sensitivity}
use Rattle.sensitivity.proofs.ExecutionLaws.{own_row, twice, least-le, execution_sound, accepts_order, accepts_shorter}

-- what is the greatest depends on the range and on what is accepted alone
longest_as : (k l : Lists) (i : ℕ) → least_at k i ≡ least_at l i → period_at k i ≡ period_at l i
    → ((x : ℕ) → Accepted l i x ↔ Accepted k i x) → (c : ℕ) → IsLongest l i c → IsLongest k i c
longest_as k l i floor period same c is =
    record {
      low = omega (arith, floor, is.low);
      high = omega (arith, period, is.high);
      accepted = (same c).0 is.accepted;
      greatest = λ x from to a. is.greatest x (omega (arith, floor, from)) (omega (arith, period, to)) ((same x).1 a);
    }

module _ (l : Lists) (i : ℕ) (here : i < length l.tasks) where
  -- so the row's own execution time is not looked at
  module _ (own : ℕ) where
    abbrev k : Lists
    k = with_execution l i own

    floor_own : least_at k i ≡ least_at l i
    unfolding longest_section section_on
    floor_own = ap least_execution (own_row l i here own)

    period_own : period_at k i ≡ period_at l i
    period_own = ap (λ (t : Task). t.period) (own_row l i here own)

    accepted_own : (x : ℕ) → Accepted l i x ↔ Accepted k i x
    accepted_own x =
        let same = ap (λ (q : Lists). SomeOrder q every_rule) (twice l i here own x) in
        (subst (λ (A : Type 0). A) (sym same), subst (λ (A : Type 0). A) same)

    least_accepted : Accepted l i (least_at l i) ↔ Accepted k i (least_at k i)
    least_accepted =
        let same = ap (Accepted k i) floor_own in
        let here = accepted_own (least_at l i) in
        (λ a. subst (λ (A : Type 0). A) (sym same) (here.0 a), λ a. here.1 (subst (λ (A : Type 0). A) same a))

    longest_own : (c : ℕ) → IsLongest l i c ↔ IsLongest k i c
    longest_own c = (
      longest_as k l i floor_own period_own accepted_own c,
      longest_as l k i (sym floor_own) (sym period_own) (λ x. ((accepted_own x).1, (accepted_own x).0)) c,
    )

  module _ (sound : Sound l) where
    abbrev answers : ℕ → Bool
    answers = passing_from (least_at l i) (accepts l i)

    longest_greatest : Greatest (period_at l i + 1) answers (longest l i)
    unfolding longest
    longest_greatest = greatest_is (period_at l i + 1) answers

    -- the test of an answer says what the words say
    test_is : (c : ℕ) → c ≤ period_at l i → T (answers c) ↔ ((least_at l i ≤ c) × Accepted l i c)
    test_is c high = (
      λ t.
          let low = leb→le (least_at l i) c (and_left (leb (least_at l i) c) (accepts l i c) t) in
          (low, (accepts_order l i here sound c low high).0 (and_right (leb (least_at l i) c) (accepts l i c) t)),
      λ a.
          and_intro (leb (least_at l i) c) (accepts l i c) (le→leb (least_at l i) c a.0) ((accepts_order l i here sound c a.0 high).1 a.1),
    )

    some_is : (c : ℕ) → IsGreatest (period_at l i + 1) answers c → IsLongest l i c
    some_is c g =
        let high : c ≤ period_at l i = omega (arith, g.below) in
        let is = (test_is c high).0 g.passes in
        record {
          low = is.0;
          high = high;
          accepted = is.1;
          greatest = λ x from to a.
              ⊎_elim (λ more. absurd (g.last x (omega arith) more ((test_is x to).1 (from, a)))) (λ h. h) (lt_or_le c x);
        }

    none_is : ((c : ℕ) → c < period_at l i + 1 → T (answers c) → ⊥) → (x : ℕ) → least_at l i ≤ x → x ≤ period_at l i → Accepted l i x → ⊥
    none_is out x from to a = out x (omega arith) ((test_is x to).1 (from, a))

    answer_exactly : (r : Option ℕ) → Greatest (period_at l i + 1) answers r → (c : ℕ) → (r ≡ Some c) ↔ IsLongest l i c
    answer_exactly r (found k g) c =
        let is = some_is k g in (
          λ e. let same : k ≡ c = cc in subst (IsLongest l i) same is,
          λ other. ap Some (le_antisymm (other.greatest k is.low is.high is.accepted) (is.greatest c other.low other.high other.accepted)),
        )
    answer_exactly r (nothing out) c = (λ e. cc, λ other. absurd (none_is out c other.low other.high other.accepted))

    shorter_accepted : (c x : ℕ) → IsLongest l i c → least_at l i ≤ x → x ≤ c → Accepted l i x
    shorter_accepted c x is from h =
        let order = λ (d : ℕ) (f : least_at l i ≤ d) (g : d ≤ period_at l i). accepts_order l i here sound d f g in
        (order x from (omega (arith, is.high))).0
        (accepts_shorter l i here sound x c from h is.high ((order c is.low is.high).1 is.accepted))

    -- if any is accepted the floor is
    none_exactly : (r : Option ℕ) → Greatest (period_at l i + 1) answers r → (r ≡ None) ↔ (Accepted l i (least_at l i) → ⊥)
    none_exactly r (found k g) =
        let is = some_is k g in
        (λ e. cc, λ refused. absurd (refused (shorter_accepted k (least_at l i) is (le_refl (least_at l i)) is.low)))
    none_exactly r (nothing out) = (λ e. none_is out (least_at l i) (le_refl (least_at l i)) (least-le l i here sound), λ refused. refl)

    present : Sensitivity l i (Ok (longest l i))
    present =
        let exactly = answer_exactly (longest l i) longest_greatest in
        let none = none_exactly (longest l i) longest_greatest in
        let inside : (c : ℕ) → ◌≡◌ {A = Result (Option ℕ) Refusal} (Ok (longest l i)) (Ok (Some c)) → longest l i ≡ Some c = λ c e. cc in
        record {
          no_task = (λ e. cc, λ h. absurd (omega (arith, here, h)));
          one = inr (one (longest l i));
          taken = λ x h. execution_sound l i here sound x;
          longest = λ c h. (λ e. (exactly c).0 (inside c e), λ is. ap Ok ((exactly c).1 is));
          accepted = λ c x e. shorter_accepted c x ((exactly c).0 (inside c e));
          refused = λ c x e more to a.
              let is = (exactly c).0 (inside c e) in
              absurd (omega (arith, is.greatest x (omega (arith, is.low, more)) to a, more));
          none = λ h. (λ e. none.0 (cc), λ refused. ap Ok (none.1 refused));
          own = λ own h. (
            λ c. (
              λ e. (longest_own own c).0 ((exactly c).0 (inside c e)),
              λ is. ap Ok ((exactly c).1 ((longest_own own c).1 is)),
            ),
            (λ e a. none.0 (cc) ((least_accepted own).1 a), λ refused. ap Ok (none.1 (λ a. refused ((least_accepted own).0 a)))),
          );
        }
      where
        one : (r : Option ℕ)
            → (◌≡◌ {A = Result (Option ℕ) Refusal} (Ok r) (Ok None)) ⊎ ((c : ℕ) × (◌≡◌ {A = Result (Option ℕ) Refusal} (Ok r) (Ok (Some c))))
        one (Some c) = inr (c, refl)
        one None = inl refl

missing : (l : Lists) (i : ℕ) → length l.tasks ≤ i → Sensitivity l i (Err NoSuchTask)
missing l i h =
    record {
      no_task = (λ e. h, λ g. refl);
      one = inl refl;
      taken = λ x here. absurd (omega (arith, here, h));
      longest = λ c here. absurd (omega (arith, here, h));
      accepted = λ c x e. cc;
      refused = λ c x e. cc;
      none = λ here. absurd (omega (arith, here, h));
      own = λ own here. absurd (omega (arith, here, h));
    }

answer_tells : (l : Lists) → Sound l → (i : ℕ) → Sensitivity l i (longest_on l i)
answer_tells l sound i =
    ⊎_elim (λ here. rw (lt-leb (length l.tasks) i here) (present l i here sound)) (λ h. rw (le-leb (length l.tasks) i h) (missing l i h))
    (lt_or_le i (length l.tasks))

-- ---- of a set

module _ (s : TaskSet) (i : ℕ) (made : is_made s ≡ true) (l : Lists) (same : l ≡ lists s) where
  made_answer : longest_on l i ≡ longest_of s i
  unfolding longest_of
  made_answer = on_made_lists s (λ (k : Lists). longest_on k i) made l same

  pub answer_11 : length l.tasks ≤ i → Err NoSuchTask ≡ longest_of s i
  answer_11 h = let first : Err NoSuchTask ≡ longest_on l i = rw (le-leb (length l.tasks) i h) in first ∙ made_answer

  pub answer_found : i < length l.tasks → (r : Option ℕ) → r ≡ longest l i → Ok r ≡ longest_of s i
  answer_found h r e = let next : Ok r ≡ longest_on l i = rw (lt-leb (length l.tasks) i h) (ap Ok e) in next ∙ made_answer

pub answer_says : (s : TaskSet) (i : ℕ) (r : Result (Option ℕ) Refusal) → r ≡ longest_of s i → Made s → Sensitivity (lists s) i r
unfolding longest_of
answer_says s i r e made =
    subst (Sensitivity (lists s) i) (sym (e ∙ rw (made_passes s made) refl)) (answer_tells (lists s) (made_sound s made) i)
