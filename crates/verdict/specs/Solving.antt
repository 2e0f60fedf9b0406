-- What solving hands over, one law for each way it ends. Assumes nothing.
use Rattle.std.specs.Prelude.{Ok, ◌≡◌, refl, Bool, get_or, drop}
use Rattle.std.proofs.Common.{sym, subst, ◌∙◌, not-suc-le-zero, le_of_suc-le-suc, arith, ext_get_or, eq-eqb, ne_eqb}
use Rattle.std.proofs.Math.Path.{ap, ap₂}
use Rattle.std.proofs.Math.Bool.{true, false}
use mathlib.Core.List.{List, [], ◌∷◌, ◌++◌, map}
use Prim.Native.Nat.{ℕ, zero, suc, ◌-◌, ◌<◌}
use Rattle.std.proofs.Math.ListN.{length, replicate}
use Rattle.std.proofs.lemmas.List.{length-map}
use Rattle.std.proofs.lemmas.Bool.Decides.{nat_tests}
use Rattle.sets.specs.Pad.{pad, map_at}
use Rattle.sets.specs.Marks.{first, marked}
use Rattle.taskset.specs.declared.TaskIndex.{TaskIndex}
use Rattle.taskset.specs.declared.TaskSet.{TaskSet}
use Rattle.taskset.specs.Refusals.{max_tasks, max_rules}
use Rattle.taskset.specs.Model.{Lists, Sound}
use Rattle.taskset.specs.Adding.{is_made, lists}
use Rattle.taskset.specs.Passing.{Sized, passed}
use Rattle.assignment.specs.declared.Search.{Search}
use Rattle.assignment.specs.Orders.{hp, ValidOrder}
use Rattle.assignment.specs.Audsley.{unassigned, assign, feasible, response_at, problem}
use Rattle.assignment.specs.LateTasks.{unassignable}
use Rattle.assignment.specs.Levels.{before_unassigned}
use Rattle.assignment.specs.Decision.{filled_count, assign_filled, filled_valid}
use Rattle.assignment.proofs.Preemptive.{lawful, valid_exactly}
use Rattle.assignment.proofs.LateLaws.{none-unassignable}
use Rattle.assignment.specs.Search.{index, time, responses, lowest, HoldsLevels}
use Rattle.taskset.specs.declared.refusals.Refusal.TheVariants.{NoTasks, NotMade}
use Rattle.verdict.specs.declared.Finding.TheVariants.{Order, Core}
use Rattle.verdict.specs.declared.Solved.{Solved}
use Rattle.verdict.specs.declared.Verdict.{Verdict}
use Rattle.verdict.specs.Core.{core_of}
use Rattle.verdict.specs.Cut.{core_marks}
use Rattle.verdict.specs.Verdict.{refused, responses_in, verdict_by, verdict_on, deciding, solving}

-- ---- refused or decided

pub deciding_13 : (l : Lists) → length l.tasks ≡ 0 → refused NoTasks ≡ deciding l
unfolding deciding
deciding_13 l z = rw (eq-eqb (length l.tasks) 0 z)

pub deciding_on : (l : Lists) → (length l.tasks ≡ 0 → ⊥) → verdict_on l ≡ deciding l
unfolding deciding
deciding_on l some = rw (ne_eqb (length l.tasks) 0 some)

pub solving_14 : (s : TaskSet) → is_made s ≡ false → record { verdict = refused NotMade; set = s } ≡ solving s
unfolding solving
solving_14 s e = rw e

pub solving_made : (s : TaskSet) → is_made s ≡ true → record { verdict = deciding (lists s); set = s } ≡ solving s
unfolding solving
solving_made s e = rw e

-- so what holds of refusal 14, and of the verdict on the lists of a set that calls make, holds of any set's
pub solving_cases : (s : TaskSet) → Sized s → (P : Verdict → Type 0) → P (refused NotMade) → (Sound (lists s) → P (deciding (lists s)))
    → P (solving s).verdict
solving_cases s size P unmade made = go (is_made s) refl
  where
    go : (b : Bool) → is_made s ≡ b → P (solving s).verdict
    go false e = subst (λ (r : Solved). P r.verdict) (solving_14 s e) unmade
    go true e = subst (λ (r : Solved). P r.verdict) (solving_made s e) (made (passed s size e).sound)

-- ---- an order

lowest_full : {A : Type 0} (n : ℕ) (d : A) (xs : List A) → length xs ≡ n → lowest n d xs ≡ pad max_tasks d xs
lowest_full n d xs e =
    let none_free : n - length xs ≡ 0 = omega arith in
    ap (λ (k : ℕ). replicate k d ++ (xs ++ replicate (max_tasks - n) d)) none_free ∙ ap (λ (k : ℕ). xs ++ replicate (max_tasks - k) d) (sym e)

module _ (l : Lists) (sound : Sound l) (active : ℕ → Bool) where
  abbrev n : ℕ
  n = length l.tasks

  abbrev order : List ℕ
  order = assign (problem l) active

  pub assign_valid : length order ≡ n → ValidOrder l active order
  assign_valid whole =
      (valid_exactly l active order).0 (filled_valid (problem l) active order (assign_filled (problem l) active) whole (lawful l sound))

  -- the response at level k is that of the task there, with those that have no level yet above it
  response_at_lem : (low : List ℕ) (k : ℕ) → k < length low
      → get_or (responses (problem l) low) k 0 ≡ time (response_at l.tasks (get_or low k 0) (unassigned n (drop k low)))
  response_at_lem [] k h = absurd (not-suc-le-zero h)
  response_at_lem (i ∷ low) zero h = refl
  response_at_lem (i ∷ low) (suc k) h = response_at_lem low k (le_of_suc-le-suc h)

  -- so, where all levels are filled, the responses are those of each task with the tasks before it above it
  responses_in_lem : length order ≡ n → length (responses (problem l) order) ≡ length order → responses (problem l) order ≡ responses_in l order
  responses_in_lem whole long =
      ext_get_or 0 (responses (problem l) order) (responses_in l order) (long ∙ sym (length-map order _))
      (λ k h.
      let here : k < length order = omega (arith, h, long) in
      response_at_lem order k here
      ∙ ap (λ (f : ℕ → Bool). time (response_at l.tasks (get_or order k 0) f))
      (sym (before_unassigned (assign_valid whole).is_order k here))
      ∙ sym (map_at (λ i. time (response_at l.tasks i (hp order i))) order k 0 0 here))

  module _ (s : Search) (holds : HoldsLevels (problem l) order s) (every : active ≡ first (length l.rules)) where
    abbrev test : (ℕ → Bool) → Bool
    test = feasible (problem l)

    -- by whether every task got a level
    verdict_is : (b : Bool) → test active ≡ b → verdict_by l b order (core_of test (length l.rules)) ≡ verdict_on l
    unfolding verdict_on
    verdict_is b e =
        ap (λ (c : Bool). verdict_by l c order (core_of test (length l.rules))) (sym e)
        ∙ ap (λ (f : ℕ → Bool). verdict_by l (test f) (assign (problem l) f) (core_of test (length l.rules))) every

    pub gives_order : s.free ≡ 0
        → record { answer = Ok Order; order = s.order; responses = s.responses; core = replicate max_rules false } ≡ verdict_on l
    unfolding feasible
    gives_order z =
        let whole : length order ≡ n = omega (arith, z, holds.free, filled_count (problem l) active order (assign_filled (problem l) active)) in
        ap₂ (λ (o : List TaskIndex) (r : List ℕ). record { answer = Ok Order; order = o; responses = r; core = replicate max_rules false })
        (holds.order ∙ lowest_full n (index 0) (map index order) (length-map order index ∙ whole))
        (holds.responses
        ∙ lowest_full n 0 (responses (problem l) order) (holds.long ∙ whole)
        ∙ ap (pad max_tasks 0) (responses_in_lem whole holds.long))
        ∙ verdict_is true (eq-eqb (length order) n whole)

-- ---- a core

pub gives_core : (l : Lists) → length (assign (problem l) (first (length l.rules))) < length l.tasks
    → record { answer = Ok Core; order = replicate max_tasks (index 0); responses = replicate max_tasks 0; core = core_marks l } ≡ verdict_on l
unfolding verdict_on feasible core_marks
gives_core l less = rw (ne_eqb (length (assign (problem l) (first (length l.rules)))) (length l.tasks) (λ e. omega (arith, e, less)))

-- ---- what the check is given

pub nobody_left : (l : Lists) → length l.tasks ≡ 0 → marked (replicate max_tasks false) ≡ unassignable l
nobody_left l none = none-unassignable l none max_tasks

pub ruleset refusing = (nat_tests, deciding_13, nobody_left)
