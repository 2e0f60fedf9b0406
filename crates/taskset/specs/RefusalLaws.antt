-- Laws of the refusals: a call is taken exactly when its entry is acceptable and its list has room, and the check of 14 counts
-- the entry alone. Assumes nothing.
use Rattle.std.specs.Prelude.{◌≡◌, refl, Bool, true, false, ◌&&◌, ◌↔◌, List, [], ◌∷◌, ◌++◌, ℕ, ◌-◌, ◌≤◌, ◌<◌, T, max, ltb, leb, eqb, length, fold, Result, Ok, Err, is_ok}
use Rattle.std.specs.Result.{result_and}
use Rattle.std.proofs.Common.{ap, ◌∙◌, le_trans, arith, eqb→eq}
use mathlib.Core.Logic.Iff
use borrow.Author.Tests.{ltb-false, leb-false, eqb-false, le-ltb, lt-leb, ne_eqb}
use Rattle.sets.specs.Choice.{pick, or_false_left, or_false_right, and_intro, and_left, and_right}
use Rattle.sets.specs.Bounded.{every, all_at}
use Rattle.sets.specs.Maximum.{maximum_at, maximum-le}
use Rattle.sets.specs.Items.{maximum-items}
use Rattle.taskset.specs.declared.refusals.Refusal.{Refusal}
use Rattle.taskset.specs.declared.refusals.Refusal.TheVariants.{Period, Execution, Deadline, Jitter, Section, SameTask, BadLine, LongText, ShortBuffer, FullTasks, NoSuchTask, FullRules, NoTasks, NotMade, Weight, Budget, DifferentPeriods, BothWays, ManyRules}
use Rattle.taskset.specs.declared.Task.{Task}
use Rattle.taskset.specs.declared.Rule.{Rule}
use Rattle.taskset.specs.declared.Call.{Call}
use Rattle.taskset.specs.declared.Call.TheVariants.{AddTask, AddRule}
use Rattle.taskset.specs.Numbering.{number}
use Rattle.taskset.specs.Refusals.{max_tasks, max_rules, max_period, max_weight, InRanges, Between, Weighed, Acceptable, Room}
use Rattle.taskset.specs.Refusals.{resources, section_on, longest_section, uses_none}
use Rattle.taskset.specs.Refusals.{Condition, full_by, first_of, outside, row_refusals, place_refusals, index_refusals, weight_refusals, refusal_by, entry_fits}

-- a refusal's number is a small one
pub number_small : (r : Refusal) → number r ≤ 24
number_small Period = omega arith
number_small Execution = omega arith
number_small Deadline = omega arith
number_small Jitter = omega arith
number_small Section = omega arith
number_small SameTask = omega arith
number_small BadLine = omega arith
number_small LongText = omega arith
number_small ShortBuffer = omega arith
number_small FullTasks = omega arith
number_small NoSuchTask = omega arith
number_small FullRules = omega arith
number_small NoTasks = omega arith
number_small NotMade = omega arith
number_small Weight = omega arith
number_small Budget = omega arith
number_small DifferentPeriods = omega arith
number_small BothWays = omega arith
number_small ManyRules = omega arith

-- a test says that a call is taken
pub ok_exactly : (r : Result (Unit {0}) Refusal) → T (is_ok r) ↔ (r ≡ Ok tt)
ok_exactly (Ok u) = (λ h. refl, λ e. tt)
ok_exactly (Err r) = (λ h. absurd h, λ e. cc)

-- ---- a list of refusals of which none applies

abbrev NoneApplies : List Condition → Type 0
NoneApplies [] = Unit {0}
NoneApplies (r ∷ rs) = (r.applies ≡ false) × NoneApplies rs

none_applies : (rs : List Condition) → first_of rs ≡ Ok tt → NoneApplies rs
none_applies [] e = tt
none_applies (r ∷ rs) e = go r.applies (none_applies rs) e
  where
    go : (b : Bool) → (first_of rs ≡ Ok tt → NoneApplies rs) → pick b (Err r.refusal) (first_of rs) ≡ Ok tt
        → (b ≡ false) × NoneApplies rs
    go true rest e = absurd (cc)
    go false rest e = (refl, rest e)

-- ---- an entry that meets none, and the other way round

pub inside : (low high x : ℕ) → (outside low high x ≡ false) ↔ ((low ≤ x) × (x ≤ high))
inside low high x = (
  λ e. (ltb-false x low (or_false_left (ltb x low) (ltb high x) e), ltb-false high x (or_false_right (ltb x low) (ltb high x) e)),
  λ h. rw (le-ltb x low h.0, le-ltb high x h.1),
)

-- the longest of a row that has a section on each resource
pub longest_section_of : (t : Task) → length t.sections ≡ resources → longest_section t ≡ fold max 0 t.sections
unfolding longest_section section_on
longest_section_of t long = rw (← long) (maximum-items t.sections)

-- no section is longer than c exactly when the longest is not
pub longest_exactly : (t : Task) (c : ℕ) → (longest_section t ≤ c) ↔ ((k : ℕ) → k < resources → section_on t k ≤ c)
unfolding longest_section
longest_exactly t c = (
  λ h k l. le_trans (maximum_at resources every (section_on t) k l tt) h,
  λ each. maximum-le resources every (section_on t) c (λ k l s. each k l),
)

-- a task that uses none has no section on any
pub none_used : (t : Task) → T (uses_none t) → (k : ℕ) → k < resources → section_on t k ≡ 0
unfolding uses_none
none_used t h k known = eqb→eq (section_on t k) 0 (all_at resources (λ q. eqb (section_on t q) 0) h k known)

row_exactly : (t : Task) → (first_of (row_refusals t) ≡ Ok tt) ↔ InRanges t
unfolding row_refusals
row_exactly t = (
  λ e.
      let (p, (c, (d, (j, (b, _))))) = none_applies (row_refusals t) e in
      let period = (inside 1 max_period t.period).0 p in
      let jitter = (inside 0 (t.period - 1) t.jitter).0 j in
      record {
        period = period;
        execution = (inside 1 t.period t.execution).0 c;
        deadline = (inside 1 t.period t.deadline).0 d;
        jitter = omega arith;
        sections = (longest_exactly t t.execution).0 ((inside 0 t.execution (longest_section t)).0 b).1;
      },
  λ r.
      rw (
        (inside 1 max_period t.period).1 r.period,
        (inside 1 t.period t.execution).1 r.execution,
        (inside 1 t.period t.deadline).1 r.deadline,
        (inside 0 (t.period - 1) t.jitter).1 (omega arith),
        (inside 0 t.execution (longest_section t)).1 (omega arith, (longest_exactly t t.execution).1 r.sections),
      ),
)

pub places_exactly : (n i j : ℕ) → (first_of (place_refusals n i j) ≡ Ok tt) ↔ ((i ≡ j → ⊥) × (i < n) × (j < n))
unfolding place_refusals
places_exactly n i j = (
  λ e.
      let (same, (missing, _)) = none_applies (place_refusals n i j) e in
      (eqb-false i j same, leb-false n i (or_false_left (leb n i) (leb n j) missing), leb-false n j (or_false_right (leb n i) (leb n j) missing)),
  λ b. rw (ne_eqb i j b.0, lt-leb n i b.1, lt-leb n j b.2),
)

index_exactly : (n : ℕ) (r : Rule) → (first_of (index_refusals n r) ≡ Ok tt) ↔ Between n r
index_exactly n r =
    let places = places_exactly n r.higher.0 r.lower.0 in (
      λ e. let b = places.0 e in record { apart = b.0; higher = b.1; lower = b.2 },
      λ b. places.1 (b.apart, b.higher, b.lower),
    )

weight_exactly : (r : Rule) → (first_of (weight_refusals r) ≡ Ok tt) ↔ Weighed r
unfolding weight_refusals
weight_exactly r = (
  λ e. let w = (inside 1 max_weight r.weight).0 (none_applies (weight_refusals r) e).0 in record { least = w.0; most = w.1 },
  λ w. rw ((inside 1 max_weight r.weight).1 (w.least, w.most)),
)

-- ---- one list of refusals after another

pub first-append : (rs qs : List Condition) → first_of (rs ++ qs) ≡ result_and (first_of rs) (first_of qs)
first-append [] qs = refl
first-append (r ∷ rs) qs = go r.applies (first-append rs qs)
  where
    go : (b : Bool) → first_of (rs ++ qs) ≡ result_and (first_of rs) (first_of qs)
        → pick b (Err r.refusal) (first_of (rs ++ qs)) ≡ result_and (pick b (Err r.refusal) (first_of rs)) (first_of qs)
    go true e = refl
    go false e = e

-- none applies exactly when none of either list does
append_exactly : (rs qs : List Condition) → (first_of (rs ++ qs) ≡ Ok tt) ↔ ((first_of rs ≡ Ok tt) × (first_of qs ≡ Ok tt))
append_exactly rs qs = rw (first-append rs qs) (go (first_of rs))
  where
    go : (r : Result (Unit {0}) Refusal) → (result_and r (first_of qs) ≡ Ok tt) ↔ ((r ≡ Ok tt) × (first_of qs ≡ Ok tt))
    go (Ok u) = (λ e. (refl, e), λ z. z.1)
    go (Err r) = (λ e. absurd (cc), λ z. let e = z.0 in absurd (cc))

-- the second one is that a list is full
abbrev full_if : Refusal → ℕ → ℕ → List Condition
full_if r limit size = full_by r (leb limit size) ∷ []

full_exactly : (r : Refusal) (limit size : ℕ) → (first_of (full_if r limit size) ≡ Ok tt) ↔ (size < limit)
full_exactly r limit size = (
  λ e. leb-false limit size (none_applies (full_if r limit size) e).0,
  λ room. rw (lt-leb limit size room),
)

-- ---- of a call

-- its entry first, then whether its list is full
pub task_by : (n m : ℕ) (t : Task)
    → refusal_by n m (AddTask t) ≡ result_and (first_of (row_refusals t)) (pick (leb max_tasks n) (Err FullTasks) (Ok tt))
unfolding refusal_by
task_by n m t = first-append (row_refusals t) (full_if FullTasks max_tasks n)

pub rule_by : (n m : ℕ) (r : Rule)
    → refusal_by n m (AddRule r)
    ≡ result_and (first_of (index_refusals n r)) (pick (leb max_rules m) (Err FullRules) (first_of (weight_refusals r)))
unfolding refusal_by
rule_by n m r = first-append (index_refusals n r) (full_by FullRules (leb max_rules m) ∷ weight_refusals r)

-- it is taken exactly when its entry is acceptable and its list has room
pub taken_exactly : (n m : ℕ) (c : Call) → (refusal_by n m c ≡ Ok tt) ↔ (Acceptable n c × Room n m c)
unfolding refusal_by
taken_exactly n m (AddTask t) =
    Iff.trans (append_exactly (row_refusals t) (full_if FullTasks max_tasks n)) (Iff.and (row_exactly t) (full_exactly FullTasks max_tasks n))
taken_exactly n m (AddRule r) =
    let full = full_if FullRules max_rules m in
    let parts =
    Iff.trans (append_exactly (index_refusals n r) (full ++ weight_refusals r))
    (Iff.and (index_exactly n r)
    (Iff.trans (append_exactly full (weight_refusals r)) (Iff.and (full_exactly FullRules max_rules m) (weight_exactly r)))) in (
      λ e. let p = parts.0 e in ((p.0, p.1.1), p.1.0),
      λ a. parts.1 (a.0.0, (a.1, a.0.1)),
    )

-- the check of 14 counts the entry alone
pub task_counted : (n m : ℕ) (t : Task) → entry_fits n m (AddTask t) ≡ is_ok (first_of (row_refusals t))
unfolding entry_fits row_refusals
task_counted n m t = refl

is_ok-both : (r q : Result (Unit {0}) Refusal) → is_ok (result_and r q) ≡ (is_ok r && is_ok q)
is_ok-both (Ok u) q = refl
is_ok-both (Err r) q = refl

pub rule_counted : (n m : ℕ) (r : Rule)
    → entry_fits n m (AddRule r) ≡ (is_ok (first_of (index_refusals n r)) && is_ok (first_of (weight_refusals r)))
unfolding entry_fits place_refusals weight_refusals
rule_counted n m r =
    ap is_ok (first-append (index_refusals n r) (weight_refusals r)) ∙ is_ok-both (first_of (index_refusals n r)) (first_of (weight_refusals r))

pub fits_exactly : (n m : ℕ) (c : Call) → T (entry_fits n m c) ↔ Acceptable n c
fits_exactly n m (AddTask t) = rw (task_counted n m t) (Iff.trans (ok_exactly (first_of (row_refusals t))) (row_exactly t))
fits_exactly n m (AddRule r) =
    let index = Iff.trans (ok_exactly (first_of (index_refusals n r))) (index_exactly n r) in
    let weight = Iff.trans (ok_exactly (first_of (weight_refusals r))) (weight_exactly r) in
    rw (rule_counted n m r) (
      λ t. (index.0 (and_left _ _ t), weight.0 (and_right _ _ t)),
      λ a. and_intro _ _ (index.1 a.0) (weight.1 a.1),
    )
