-- Laws of a call that is refused by 14 before all else, and of one that changes a set: refused, with the set as it was, or taken, with
-- the set that holds the new lists. Assumes nothing.
use Rattle.std.specs.Prelude.{◌≡◌, refl, Bool, true, false, Result, Ok, Err, is_err}
use Rattle.std.proofs.Common.{ap, ◌∙◌}
use Rattle.sets.specs.Choice.{pick}
use Rattle.taskset.specs.declared.TaskSet.{TaskSet}
use Rattle.taskset.specs.declared.Changed.{Changed}
use Rattle.taskset.specs.declared.refusals.Refusal.{Refusal}
use Rattle.taskset.specs.declared.refusals.Refusal.TheVariants.{NotMade}
use Rattle.taskset.specs.Model.{Lists, Sound}
use Rattle.taskset.specs.Adding.{holding, lists, is_made, on_made, answering, changing, Made}
use Rattle.taskset.specs.Exact.{made_passes, sound_holding}

-- ---- 14, and then what is answered of the set's lists

module _ {A : Type 0} (s : TaskSet) (f : Lists → Result A Refusal) where
  pub on_made_14 : is_made s ≡ false → Err NotMade ≡ on_made s f
  on_made_14 e = rw e refl

  pub on_made_lists : is_made s ≡ true → (l : Lists) → l ≡ lists s → f l ≡ on_made s f
  on_made_lists made l same = rw made (ap f same)

-- ---- a call that changes a set, as the code makes it

module _ (s new : TaskSet) where
  answering_refused : (r : Result (Unit {0}) Refusal) → is_err r ≡ true → ◌≡◌ {A = Changed} (record { answer = r; set = s }) (answering s r new)
  answering_refused (Ok u) e = absurd (cc)
  answering_refused (Err k) e = refl

  answering_taken : (r : Result (Unit {0}) Refusal) → is_err r ≡ false → ◌≡◌ {A = Changed} (record { answer = r; set = new }) (answering s r new)
  answering_taken (Ok u) e = refl
  answering_taken (Err k) e = absurd (cc)

  pub answering_kept : (r : Result (Unit {0}) Refusal) → (r ≡ Ok tt → ⊥) → (answering s r new).set ≡ s
  answering_kept (Ok u) refused = absurd (refused refl)
  answering_kept (Err k) refused = refl

module _ (s : TaskSet) (refusal : Lists → Result (Unit {0}) Refusal) (new : Lists → Lists) (r : Result (Unit {0}) Refusal)
    (e : r ≡ on_made s refusal) where
  abbrev with_answer : Result (Unit {0}) Refusal → Changed
  with_answer a = answering s a (holding (new (lists s)))

  pub changing_refused : is_err r ≡ true → ◌≡◌ {A = Changed} (record { answer = r; set = s }) (changing s refusal new)
  changing_refused bad = answering_refused s (holding (new (lists s))) r bad ∙ ap with_answer e

  module _ (ok : is_err r ≡ false) where
    pub changing_taken : (t : TaskSet) → t ≡ holding (new (lists s)) → ◌≡◌ {A = Changed} (record { answer = r; set = t }) (changing s refusal new)
    changing_taken t is =
        ap (λ (x : TaskSet). record { answer = r; set = x }) is ∙ answering_taken s (holding (new (lists s))) r ok ∙ ap with_answer e

    -- then it passes the check of 14, and none of the call's refusals applies
    pub taken_made : (is_made s ≡ true) × (refusal (lists s) ≡ Ok tt)
    taken_made = go (is_made s) refl (refusal (lists s)) refl (rw e at ok)
      where
        go : (b : Bool) → is_made s ≡ b → (a : Result (Unit {0}) Refusal) → refusal (lists s) ≡ a → is_err (pick b a (Err NotMade)) ≡ false
            → (is_made s ≡ true) × (refusal (lists s) ≡ Ok tt)
        go true made (Ok u) is fine = (made, is)
        go true made (Err k) is fine = absurd (cc)
        go false made a is fine = absurd (cc)

-- ---- on a set that calls make

module _ (s : TaskSet) (made : Made s) where
  pub changing_lists : (refusal : Lists → Result (Unit {0}) Refusal) (new : Lists → Lists)
      → changing s refusal new ≡ answering s (refusal (lists s)) (holding (new (lists s)))
  changing_lists refusal new = rw (made_passes s made) refl

  -- it makes a set that calls make, where it takes lists that adding takes to such lists
  pub answering_made : (r : Result (Unit {0}) Refusal) (l : Lists) → (r ≡ Ok tt → Sound l) → Made (answering s r (holding l)).set
  answering_made (Ok u) l sound = sound_holding l (sound refl)
  answering_made (Err k) l sound = made
