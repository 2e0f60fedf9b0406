-- What a trial answers, and what that says. Assumes nothing.
use Rattle.std.specs.Prelude.{Result, Ok, ◌≡◌, refl, Bool, true, false, List, ◌⊎◌, ◌↔◌, ℕ, ◌<◌, nat_eq, length}
use Rattle.std.proofs.Common.{sym, subst, ap, ◌∙◌, inl, inr, eqb→eq, eq-eqb}
use Rattle.sets.specs.Choice.{true→T, T→true, same_test}
use Rattle.sets.specs.Marks.{marked}
use Rattle.taskset.specs.declared.TaskSet.{TaskSet}
use Rattle.taskset.specs.declared.refusals.Refusal.{Refusal}
use Rattle.taskset.specs.Model.{Lists, Sound}
use Rattle.taskset.specs.Adding.{is_made, lists, Made}
use Rattle.taskset.specs.Exact.{made_sound, made_passes}
use Rattle.taskset.specs.ChangingLaws.{on_made_lists}
use Rattle.assignment.specs.Orders.{SomeOrder}
use Rattle.assignment.specs.Audsley.{Problem, feasible, fill, problem}
use Rattle.assignment.specs.Decision.{valid_fewer}
use Rattle.assignment.proofs.Preemptive.{feasible-order}
use Rattle.feasibility.specs.Trying.{trying}
use Rattle.feasibility.specs.Decides.{Decides}

-- ---- a search of lists that has ended with so many free levels

pub none_free : (l : Lists) → Sound l → (active : ℕ → Bool) (free : ℕ) → (free ≡ 0) ↔ SomeOrder l active
    → nat_eq free 0 ≡ feasible (problem l) active
none_free l sound active free decides =
    let order = feasible-order l sound active in
    same_test _ _ (λ t. order.1 (decides.0 (eqb→eq free 0 t))) (λ t. true→T _ (eq-eqb free 0 (decides.1 (order.0 t))))

-- ---- the answer

-- of a trial of its lists
pub trying_made : (s : TaskSet) (active : List Bool) → is_made s ≡ true → (l : Lists) → l ≡ lists s → (found : Bool)
    → found ≡ feasible (problem l) (marked active) → Ok found ≡ trying s active
unfolding trying
trying_made s active made l same found e = ap Ok e ∙ on_made_lists s (λ (k : Lists). Ok (feasible (problem k) (marked active))) made l same

-- ---- what that says

yes_or_no : (b : Bool) → ◌≡◌ {A = Result Bool Refusal} (Ok b) (Ok true) ⊎ ◌≡◌ {A = Result Bool Refusal} (Ok b) (Ok false)
yes_or_no true = inl refl
yes_or_no false = inr refl

is_yes : (b : Bool) → ◌≡◌ {A = Result Bool Refusal} (Ok b) (Ok true) → b ≡ true
is_yes b e = cc

-- without tasks there is no level to fill
feasible_none : (p : Problem) (active : ℕ → Bool) → p.tasks ≡ 0 → feasible p active ≡ true
unfolding feasible fill
feasible_none p active none = rw none refl

-- marks that are the same at the rules
some_same : (l : Lists) (active other : ℕ → Bool) → ((k : ℕ) → k < length l.rules → other k ≡ active k)
    → SomeOrder l active ↔ SomeOrder l other
some_same l active other same = (
  λ o. (o.0, valid_fewer (λ k h on. true→T (active k) (sym (same k h) ∙ T→true (other k) on)) o.1),
  λ o. (o.0, valid_fewer (λ k h on. true→T (other k) (same k h ∙ T→true (active k) on)) o.1),
)

module _ (l : Lists) (sound : Sound l) (active : ℕ → Bool) where
  abbrev test : Bool
  test = feasible (problem l) active

  yes : ◌≡◌ {A = Result Bool Refusal} (Ok test) (Ok true) ↔ SomeOrder l active
  yes = let order = feasible-order l sound active in (λ r. order.0 (true→T test (is_yes test r)), λ o. ap Ok (T→true test (order.1 o)))

  feasible_decides : Decides l active (Ok test)
  feasible_decides =
      record {
        one = yes_or_no test;
        yes = yes;
        unused = λ other same. let o = some_same l active other same in (λ r. o.0 (yes.0 r), λ some. yes.1 (o.1 some));
        empty = λ none. ap Ok (feasible_none (problem l) active none);
      }

pub trying_decides : (s : TaskSet) (active : List Bool) (r : Result Bool Refusal) → r ≡ trying s active → Made s
    → Decides (lists s) (marked active) r
unfolding trying
trying_decides s active r e made =
    subst (Decides (lists s) (marked active)) (sym (e ∙ rw (made_passes s made) refl))
    (feasible_decides (lists s) (made_sound s made) (marked active))
