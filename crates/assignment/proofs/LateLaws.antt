-- Who is left without a level. Where no rule is active these are, for any test that fewer tasks above can't break, the same tasks
-- whichever of those that may takes each level: the largest set of tasks of which each fails with the others above it. Then for
-- document 01's test. Assumes nothing.
use Rattle.std.specs.Prelude.{Option, is_some}
use Rattle.std.specs.Prelude.{◌≡◌, refl, Bool, false, List, [], ◌∷◌, ◌⊎◌, ◌↔◌, ℕ, suc, ◌<◌, eqb, length, get_or, replicate}
use Rattle.std.proofs.Common.{sym, subst, ◌∙◌, inl, inr, suc-le-suc, not-suc-le-zero, eq-zero-or-pos, arith, eqb→eq}
use Rattle.std.proofs.Math.Path.{fun_ext}
use Rattle.std.proofs.Math.Logic.{⊎_elim}
use Rattle.std.proofs.Math.Dec.{T, eqb_refl}
use Rattle.sets.specs.Choice.{same_test, refuted→false}
use Rattle.sets.specs.Bounded.{Subset, without, without_still, without_other, count, count-some}
use Rattle.sets.specs.Marks.{marked, marked-none}
use Rattle.taskset.specs.declared.Rule.{Rule}
use Rattle.taskset.specs.Model.{Lists, task_at, Sound}
use Rattle.response.specs.declared.Timing.{Timing}
use Rattle.response.specs.declared.Timing.TheVariants.{Met, Missed, PastPeriod}
use Rattle.response.specs.Equation.{demand}
use Rattle.response.specs.Timing.{SaysTiming, timing_of, up_to_deadline, reported}
use Rattle.response.specs.TimingLaws.{timing_says}
use Rattle.assignment.specs.declared.Search.{Search}
use Rattle.assignment.specs.Orders.{no_rule, MeetsDeadline, SomeOrder}
use Rattle.assignment.specs.Canonical.{MayTake, Canonical}
use Rattle.assignment.specs.LateTasks.{EachMay, CanonicalSearch, AllMiss, SearchEnds, LateResponse, LateTasks, unassignable, late_response}
use Rattle.assignment.specs.Audsley.{Problem, Passes, unassigned, assign, feasible, Filled, empty, level, Stuck, problem}
use Rattle.assignment.specs.Levels.{unassigned_of, unassigned_is, unassigned_cons, none_left, each_order, left-unassigned, may_other}
use Rattle.assignment.specs.Decision.{Lawful, test_may, may_test, filled_each_may, filled_count, assign-ends, assign_filled}
use Rattle.assignment.proofs.CanonicalLaws.{assign-greatest}
use Rattle.assignment.proofs.Preemptive.{meets_exactly, lawful, feasible-order}
use Rattle.assignment.specs.Ready.{level_stops}
use Rattle.assignment.specs.Search.{Ended}
use Rattle.assignment.specs.Filling.{searched_fewer}

-- ---- where every task has a level the search of (a) has found the order of (a), for any meaning of a deadline met

module _ (n : ℕ) (rules : List Rule) (Meets : ℕ → (ℕ → Bool) → Type 0) (active : ℕ → Bool) where
  pub canonical_search : (low : List ℕ) → length low ≡ n → CanonicalSearch n rules Meets active low ↔ Canonical n rules Meets active low
  canonical_search low whole = (found, back)
    where
      found : CanonicalSearch n rules Meets active low → Canonical n rules Meets active low
      found s =
          let is = each_order n rules Meets active low s.ended.each whole in
          record {
            is_order = is;
            each = λ k h. rw (left-unassigned is k h) (s.ended.each k h);
            greatest = λ k h i m. s.greatest k h i (rw (left-unassigned is k h) at m);
          }

      back : Canonical n rules Meets active low → CanonicalSearch n rules Meets active low
      back c =
          let is = c.is_order in
          record {
            ended =
                record {
                  each = λ k h. subst (λ (left : ℕ → Bool). MayTake rules Meets active left (get_or low k 0)) (left-unassigned is k h) (c.each k h);
                  nobody = λ i m. let un = unassigned_is n low i m.is_left in un.1 (is.every i un.0);
                };
            greatest = λ k h i m.
                c.greatest k h i (subst (λ (left : ℕ → Bool). MayTake rules Meets active left i) (sym (left-unassigned is k h)) m);
          }

-- ---- by a test such a search is one that may have filled its levels so

module _ (p : Problem) (active : ℕ → Bool) where
  abbrev n : ℕ
  n = p.tasks

  each_filled : (low : List ℕ) → EachMay n p.rules (Passes p) active low → Filled p active low
  each_filled [] each = empty
  each_filled (i ∷ low) each =
      let may = each 0 (omega arith) in
      level i low (unassigned_is n low i may.is_left).0 (may_test p active (unassigned n low) i may)
      (each_filled low (λ k h. each (suc k) (suc-le-suc h)))

  full_stuck : (low : List ℕ) → Filled p active low → length low ≡ n → Stuck p active (unassigned n low)
  full_stuck low f whole i h t =
      none_left n p.rules (Passes p) active low (filled_each_may p active low f) whole i (test_may p active (unassigned n low) i t).is_left

  -- so where the assignment ends nobody may take the next level
  assign_stuck : Stuck p active (unassigned n (assign p active))
  assign_stuck = ⊎_elim (full_stuck (assign p active) (assign_filled p active)) (λ stuck. stuck) (assign-ends p active).1

  -- a search with rules, where every level is filled or no rule is active, is one without
  ended_none : (s : Search) → Ended p active s → (s.free ≡ 0) ⊎ ((k : ℕ) → k < length p.rules → T (active k) → ⊥) → Ended p no_rule s
  ended_none s ended so =
      record {
        searched = searched_fewer p no_rule active (λ k h on. absurd on) s ended.searched;
        ends =
            ⊎_elim (λ z. inl z)
            (λ none.
            ⊎_elim (λ z. inl z)
            (λ stuck. inr (λ i h t.
            stuck i h
            (may_test p active (marked s.left) i
            (may_other (λ i above m. m) (λ k l on. absurd (none k l on)) (test_may p no_rule (marked s.left) i t)))))
            ended.ends)
            so;
      }

-- ---- without rules

module _ (p : Problem) (lawful : Lawful p) where
  abbrev left : List ℕ → ℕ → Bool
  left = unassigned p.tasks

  -- of tasks that each fail with the others above it none gets a level: the first would pass with all of them above it
  fail_stay : (set : ℕ → Bool) → AllMiss p.tasks (Passes p) set → (low : List ℕ) → Filled p no_rule low → Subset p.tasks set (left low)
  fail_stay set fail all empty j h t = unassigned_of p.tasks [] j h not-suc-le-zero
  fail_stay set fail all (level i low inside may f) j h t = go (fail_stay set fail low f)
    where
      go : Subset p.tasks set (left low) → T (left (i ∷ low) j)
      go stay =
          rw (unassigned_cons p.tasks low i)
          (without_other (left low) i j
          (λ e.
          let own : T (set i) = subst (λ (k : ℕ). T (set k)) (sym e) t in
          fail i inside own
          (lawful.fewer i (without set i) (without (left low) i)
          (λ k l s. let still = without_still set i k s in without_other (left low) i k still.1 (stay k l still.0))
          (test_may p no_rule (left low) i may).meets))
          (stay j h t))

  -- and where the search is stuck those left are such tasks
  stuck_fail : (rest : ℕ → Bool) → Stuck p no_rule rest → AllMiss p.tasks (Passes p) rest
  stuck_fail rest stuck i h t m =
      stuck i h (may_test p no_rule rest i (record { is_left = t; below = λ k l on. absurd on; meets = m }))

  -- so two searches leave the same
  left_same : (one other : List ℕ) → Filled p no_rule one → Filled p no_rule other → Stuck p no_rule (left one) → Stuck p no_rule (left other)
      → left one ≡ left other
  left_same one other f g stuck ended =
      fun_ext (λ j. same_test (left one j) (left other j) (sub one other g stuck j) (sub other one f ended j))
    where
      sub : (a b : List ℕ) → Filled p no_rule b → Stuck p no_rule (left a) → (j : ℕ) → T (left a j) → T (left b j)
      sub a b filled s j h = fail_stay (left a) (stuck_fail (left a) s) b filled j (unassigned_is p.tasks a j h).0 h

  -- a search in arrays leaves the same
  ended_left : (s : Search) → Ended p no_rule s → marked s.left ≡ left (assign p no_rule)
  ended_left s ended =
      let held = ended.searched in
      let low = held.low in
      let few = filled_count p no_rule low held.filled in
      held.holds.left
      ∙ left_same low (assign p no_rule) held.filled (assign_filled p no_rule)
      (⊎_elim (λ z. full_stuck p no_rule low held.filled (omega (arith, z, held.holds.free, few)))
      (subst (Stuck p no_rule) held.holds.left) ended.ends) (assign_stuck p no_rule)

-- ---- by document 01's test

module _ (l : Lists) (sound : Sound l) where
  abbrev p : Problem
  p = problem l

  abbrev m : ℕ
  m = length l.tasks

  -- by the words and by the test the same tasks may take a level
  abbrev MayByWords : (ℕ → Bool) → ℕ → Type 0
  MayByWords = MayTake l.rules (MeetsDeadline l.tasks) no_rule

  abbrev MayByTest : (ℕ → Bool) → ℕ → Type 0
  MayByTest = MayTake l.rules (Passes p) no_rule

  by_words : {rest : ℕ → Bool} {i : ℕ} → MayByTest rest i → MayByWords rest i
  by_words = may_other (λ i above. (meets_exactly l.tasks i above).0) (λ k h on. on)

  by_test : {rest : ℕ → Bool} {i : ℕ} → MayByWords rest i → MayByTest rest i
  by_test = may_other (λ i above. (meets_exactly l.tasks i above).1) (λ k h on. on)

  abbrev low : List ℕ
  low = assign p no_rule

  abbrev rest : ℕ → Bool
  rest = unassigned m low

  search_ends : SearchEnds l low
  search_ends =
      record {
        ended =
            record {
              each = λ k h. by_words (filled_each_may p no_rule low (assign_filled p no_rule) k h);
              nobody = λ i may.
                  assign_stuck p no_rule i (unassigned_is m low i may.is_left).0 (may_test p no_rule rest i (by_test may));
            };
        greatest = λ k h i may. assign-greatest p no_rule k h i (by_test may);
      }

  fails : AllMiss m (Passes p) rest
  fails = stuck_fail p (lawful l sound) rest (assign_stuck p no_rule)

  -- the response that is reported of a task left
  late_response_is : (i : ℕ) → T (rest i) → LateResponse l.tasks i (without rest i) (late_response l.tasks rest i)
  late_response_is i t =
      let inside = (unassigned_is m low i t).0 in
      let at = task_at l.tasks i in
      let above = without rest i in
      let d = demand l.tasks i above in
      go (timing_of l.tasks i above) (timing_says d at.jitter at.deadline at.period)
      (λ s. fails i inside t (subst (λ (a : Option ℕ). T (is_some a)) (sym (level_stops l.tasks sound.tasks i inside above)) s))
    where
      go : (a : Timing) → SaysTiming l.tasks i (without rest i) a → (T (is_some (up_to_deadline a)) → ⊥)
          → LateResponse l.tasks i (without rest i) (reported a)
      go (Met r) s late = absurd (late tt)
      go (Missed r) s late = record { positive = λ h. s; zero = λ z. absurd (omega (arith, s.1, z)) }
      go PastPeriod s late = record { positive = λ h. absurd (omega arith); zero = λ z. s }

  anyone_left : ((i : ℕ) × T (rest i)) ↔ (SomeOrder l no_rule → ⊥)
  unfolding feasible
  anyone_left =
      let few = filled_count p no_rule low (assign_filled p no_rule) in
      let each = filled_each_may p no_rule low (assign_filled p no_rule) in
      let f = feasible-order l sound no_rule in (
        λ s o. none_left m l.rules (Passes p) no_rule low each (eqb→eq (length low) m (f.1 o)) s.0 s.1,
        λ none.
            ⊎_elim
            (λ z. absurd (none (f.0 (subst (λ (k : ℕ). T (eqb k m)) (omega arith) (eqb_refl m)))))
            (λ some. let i = count-some m rest some in (i.0, i.2))
            (eq-zero-or-pos (count m rest)),
      )

  pub late_tasks : LateTasks l (unassignable l) (late_response l.tasks (unassignable l))
  unfolding unassignable
  late_tasks =
      record {
        search = (low, search_ends, refl);
        every = λ other e.
            left_same p (lawful l sound) other low (each_filled p no_rule other (λ k h. by_test (e.each k h)))
            (assign_filled p no_rule) (λ i h t. e.nobody i (by_words (test_may p no_rule (unassigned m other) i t)))
            (assign_stuck p no_rule);
        misses = λ i h t meets. fails i h t ((meets_exactly l.tasks i (without rest i)).1 meets);
        largest = λ set miss.
            fail_stay p (lawful l sound) set (λ i h t passes. miss i h t ((meets_exactly l.tasks i (without set i)).0 passes)) low
            (assign_filled p no_rule);
        anyone = anyone_left;
        responses = late_response_is;
      }

  -- the tasks that a search leaves in its array, where every level is filled or no rule is active
  pub left-unassignable : (active : ℕ → Bool) (s : Search) → Ended p active s → (s.free ≡ 0) ⊎ ((k : ℕ) → k < length l.rules → T (active k) → ⊥)
      → marked s.left ≡ unassignable l
  unfolding unassignable
  left-unassignable active s ended so = ended_left p (lawful l sound) s (ended_none p active s ended so)

-- they are some of its tasks
pub left_inside : (l : Lists) (i : ℕ) → T (unassignable l i) → i < length l.tasks
unfolding unassignable
left_inside l i t = (unassigned_is (length l.tasks) (assign (problem l) no_rule) i t).0

-- and none where there is no task
pub none-unassignable : (l : Lists) → length l.tasks ≡ 0 → (k : ℕ) → marked (replicate k false) ≡ unassignable l
none-unassignable l z k = marked-none k ∙ fun_ext (λ i. sym (refuted→false (unassignable l i) (λ t. omega (arith, left_inside l i t))))
