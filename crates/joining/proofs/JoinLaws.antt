-- What the call gives, by the way it ends, and what that says. Assumes nothing.
use Rattle.std.specs.Prelude.{◌≡◌, Result, false, ℕ, ◌<◌, max, min, length, is_err}
use Rattle.std.proofs.Common.{◌∙◌, arith}
use Rattle.taskset.specs.declared.TaskSet.{TaskSet}
use Rattle.taskset.specs.declared.Changed.{Changed}
use Rattle.taskset.specs.declared.refusals.Refusal.{Refusal}
use Rattle.taskset.specs.Adding.{holding, lists, on_made, Made}
use Rattle.taskset.specs.Holding.{lists-holding}
use Rattle.taskset.specs.Exact.{made_sound}
use Rattle.taskset.specs.ChangingLaws.{taken_made, changing_lists, answering_kept, answering_made}
use Rattle.joining.specs.Joining.{join_refusal, joined, joining}
use Rattle.joining.specs.Joins.{Joins}
use Rattle.joining.proofs.PlaceLaws.{low-lt}
use Rattle.joining.proofs.RefusingLaws.{refusal_says, taken_joinable}
use Rattle.joining.proofs.JoinedLaws.{joined_sound, are_joined}

-- what is not refused joins two places
pub join_places : (s : TaskSet) (p q : ℕ) (r : Result (Unit {0}) Refusal) → r ≡ on_made s (join_refusal p q) → is_err r ≡ false
    → (min p q < max p q) × (max p q < length (lists s).tasks)
join_places s p q r e ok =
    let two = (taken_joinable p q (lists s) (taken_made s (join_refusal p q) (joined (min p q) (max p q)) r e ok).1).two in
    (low-lt p q two.apart, omega (arith, two.one, two.other))

-- of a set that calls make
pub join_says : (s : TaskSet) (p q : ℕ) (r : Changed) → r ≡ joining s p q → Made s → Joins s p q r
unfolding joining
join_says s p q r e made =
    let new = joined (min p q) (max p q) (lists s) in
    let sound = made_sound s made in
    let is = e ∙ changing_lists s made (join_refusal p q) (joined (min p q) (max p q)) in
    rw is
    (record {
      answer = refusal_says p q (lists s);
      kept = answering_kept s (holding new) (join_refusal p q (lists s));
      joined = λ ok. rw (ok, lists-holding new) (are_joined (lists s) p q sound (taken_joinable p q (lists s) ok));
      made = answering_made s made (join_refusal p q (lists s)) new
          (λ ok. let t = taken_joinable p q (lists s) ok in joined_sound (lists s) p q t.two sound t.period t.fits);
    })
