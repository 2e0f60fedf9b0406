-- A verdict is shown as a refusal or as a listing, and a listing gives what it should. Assumes nothing.
use Rattle.std.specs.Prelude.{Result, Ok, Err, IfOk, ◌≡◌, refl, Bool, true, false, List, [], ◌⊎◌, ℕ, ◌≤◌, ◌<◌, leb, length}
use Rattle.std.proofs.Common.{sym, ap, subst, inl, inr, arith}
use Rattle.sets.specs.Choice.{pick, lt_or_le}
use Rattle.sets.specs.Collected.{collected_none, collected-some}
use Rattle.sets.specs.Onto.{onto}
use Rattle.taskset.specs.declared.refusals.Refusal.{Refusal}
use Rattle.taskset.specs.declared.refusals.Refusal.TheVariants.{ShortBuffer, NoTasks}
use Rattle.taskset.specs.declared.TaskSet.{TaskSet}
use Rattle.taskset.specs.Numbering.{number}
use Rattle.taskset.specs.Model.{Lists, Sound}
use Rattle.taskset.specs.Adding.{lists}
use Rattle.taskset.specs.Passing.{Sized}
use Rattle.taskset.specs.Outcome.{Outcome, shown_as, buffer_after}
use Rattle.assignment.specs.LateTasks.{unassignable}
use Rattle.assignment.proofs.LateLaws.{left_inside, late_tasks}
use Rattle.verdict.specs.declared.Finding.{Finding}
use Rattle.verdict.specs.declared.Finding.TheVariants.{Order, Core}
use Rattle.verdict.specs.declared.Verdict.{Verdict}
use Rattle.verdict.specs.Correct.{Correct}
use Rattle.verdict.specs.Verdict.{deciding, solving}
use Rattle.verdict.specs.Solving.{deciding_13, solving_cases}
use Rattle.verdict.specs.Explained.{deciding_correct}
use Rattle.verdict.specs.OneOrderLaws.{deciding_one}
use Rattle.listing.specs.Listing.{late_line, late_for, listing, outcome, fitted}
use Rattle.listing.specs.LateLines.{EmptyCore, LateLines}
use Rattle.listing.specs.Gives.{Gives}
use Rattle.listing.proofs.Showing.{outcome_shown}

-- ---- the late lines

module _ (l : Lists) (v : Verdict) (sound : Sound l) (ok : Correct l v) where
  abbrev left : ℕ → Bool
  left = unassignable l

  -- under a core with rules nobody is left
  unchanged : (a : Result Finding Refusal) → v.answer ≡ a → (EmptyCore v → ⊥) → late_for l a ≡ []
  unchanged (Err k) e full = refl
  unchanged (Ok Order) e full = refl
  unchanged (Ok Core) e full =
      collected_none left (late_line l.tasks left) (length l.tasks)
      (λ i h t. full (e, (ok.empty e).1 ((late_tasks l sound).anyone.0 (i, t))))

  pub late_lines_lem : LateLines l v (late_for l v.answer)
  late_lines_lem =
      record {
        gained = λ empty. rw empty.0;
        unchanged = unchanged v.answer refl;
        some = λ empty.
            let one = (late_tasks l sound).anyone.1 ((ok.empty empty.0).0 empty.1) in
            rw empty.0 (collected-some left (late_line l.tasks left) (length l.tasks) one.0 (left_inside l one.0 one.1) one.1);
        who = late_tasks l sound;
      }

-- ---- a refusal or a listing

module _ (l : Lists) where
  abbrev HasTasks : Type 0
  HasTasks = 1 ≤ length l.tasks

  -- what an outcome about these lists is
  pub data RefusedOrListed : Outcome → Type 0 where
    refusal : (k : Refusal) → 1 ≤ number k → number k < 100 → RefusedOrListed (Err k)
    verdict : HasTasks → RefusedOrListed (Ok (listing l (deciding l)))

  -- in a buffer it stays so
  pub fitted_either : (room : ℕ) (o : Outcome) → RefusedOrListed o → RefusedOrListed (fitted room o)
  fitted_either room o (refusal k some few) = refusal k some few
  fitted_either room o (verdict some) = go (leb (length (listing l (deciding l))) room)
    where
      go : (b : Bool) → RefusedOrListed (pick {A = Outcome} b (Ok (listing l (deciding l))) (Err ShortBuffer))
      go true = verdict some
      go false = refusal ShortBuffer (omega arith) (omega arith)

  module _ (sound : Sound l) where
    pub decided_shown : HasTasks → outcome l (deciding l) ≡ Ok (listing l (deciding l))
    decided_shown some = outcome_shown l (deciding l) (deciding_correct l sound some).one

    pub decided_either : RefusedOrListed (outcome l (deciding l))
    decided_either = go (lt_or_le (length l.tasks) 1)
      where
        go : (length l.tasks < 1) ⊎ HasTasks → RefusedOrListed (outcome l (deciding l))
        go (inl none) = subst RefusedOrListed (ap (outcome l) (deciding_13 l (omega arith))) (refusal NoTasks (omega arith) (omega arith))
        go (inr some) = subst RefusedOrListed (sym (decided_shown some)) (verdict some)

    -- the listing gives what it should
    pub gives : HasTasks → (was : List ℕ) → let bytes = listing l (deciding l) in Gives l (deciding l) (length bytes) was (onto bytes was)
    gives some was =
        let ok = deciding_correct l sound some in
        record { size = refl; bytes = refl; correct = ok; one_order = deciding_one l sound; late = late_lines_lem l (deciding l) sound ok }

    -- so does showing it, where nothing is refused
    pub either_gives : (o : Outcome) → RefusedOrListed o → (was : List ℕ) (r : Result ℕ Refusal) (is : List ℕ) → r ≡ shown_as o
        → is ≡ buffer_after o was → IfOk r (λ count. Gives l (deciding l) count was is)
    either_gives o (refusal k some few) was r is e f = rw e tt
    either_gives o (verdict some) was r is e f = rw (e, f) (gives some was)

-- and listing a set
abbrev ListGives : TaskSet → List ℕ → Result ℕ Refusal → List ℕ → Verdict → Type 0
ListGives s was r is v =
    let o = fitted (length was) (outcome (lists s) v) in
    r ≡ shown_as o → is ≡ buffer_after o was → IfOk r (λ count. Gives (lists s) v count was is)

pub list_gives : (s : TaskSet) → Sized s → (was : List ℕ) (r : Result ℕ Refusal) (is : List ℕ) → ListGives s was r is (solving s).verdict
list_gives s size was r is =
    solving_cases s size (ListGives s was r is) (λ e f. rw e tt)
    (λ sound. either_gives (lists s) sound _ (fitted_either (lists s) (length was) _ (decided_either (lists s) sound)) was r is)
