-- That the answer says what a sceptic asks of it. Assumes nothing.
use Rattle.std.specs.Prelude.{Result, Ok, Err, ◌≡◌, refl, Bool, true, false, List, ℕ, ◌≤◌, ◌<◌, ltb, eqb, length}
use Rattle.std.proofs.Common.{sym, ap, subst, ◌∙◌, inl, inr, arith, eqb→eq, lt-ltb, le-ltb, ltb→lt}
use borrow.Author.Tests.{ltb-false, eqb-false}
use Rattle.sets.specs.Choice.{pick, true→T}
use Rattle.sets.specs.Onto.{onto}
use Rattle.taskset.specs.declared.TaskSet.{TaskSet}
use Rattle.taskset.specs.declared.refusals.Refusal.{Refusal}
use Rattle.taskset.specs.declared.refusals.Refusal.TheVariants.{ShortBuffer, NoTasks, NotMade, ManyRules}
use Rattle.taskset.specs.Model.{Lists, Sound}
use Rattle.taskset.specs.Adding.{is_made, lists, Made}
use Rattle.taskset.specs.Outcome.{Outcome, shown_as, buffer_after}
use Rattle.taskset.specs.Exact.{made_sound, made_passes}
use Rattle.taskset.specs.ChangingLaws.{on_made_14, on_made_lists}
use Rattle.assignment.specs.Audsley.{problem}
use Rattle.subsets.specs.Subsets.{short}
use Rattle.all_cores.specs.Enumerating.{max_cores, cores_of, enumerating_on, enumerating}
use Rattle.all_cores.specs.EveryCore.{EveryCore, Enumerates}
use Rattle.all_cores.proofs.EveryCoreLaws.{every_core}

-- ---- what each answer says

module _ (l : Lists) (was : List ℕ) where
  -- the answer to these lists, and the buffer that it leaves
  abbrev Tells : Outcome → Type 0
  Tells r = Enumerates l (shown_as r) was (buffer_after r was)

  no_tasks_says : length l.tasks ≡ 0 → Tells (Err NoTasks)
  no_tasks_says none =
      record {
        no_tasks = (λ e. none, λ z. refl);
        many_rules = (λ e. cc, λ h. absurd (omega (arith, none, h.0)));
        short_buffer = (λ e. cc, λ h. absurd (omega (arith, none, h.0)));
        one = inl refl;
        buffer_kept = λ r e. refl;
        gives = λ count e. cc;
      }

  many_rules_says : 1 ≤ length l.tasks → 12 < length l.rules → Tells (Err ManyRules)
  many_rules_says some many =
      record {
        no_tasks = (λ e. cc, λ z. absurd (omega (arith, some, z)));
        many_rules = (λ e. (some, many), λ h. refl);
        short_buffer = (λ e. cc, λ h. absurd (omega (arith, many, h.1)));
        one = inr (inl refl);
        buffer_kept = λ r e. refl;
        gives = λ count e. cc;
      }

  short_buffer_says : 1 ≤ length l.tasks → length l.rules ≤ 12 → length was < 924 → Tells (Err ShortBuffer)
  short_buffer_says some few less =
      record {
        no_tasks = (λ e. cc, λ z. absurd (omega (arith, some, z)));
        many_rules = (λ e. cc, λ h. absurd (omega (arith, few, h.1)));
        short_buffer = (λ e. (some, few, less), λ h. refl);
        one = inr (inr (inl refl));
        buffer_kept = λ r e. refl;
        gives = λ count e. cc;
      }

  listed_says : 1 ≤ length l.tasks → length l.rules ≤ 12 → 924 ≤ length was → (numbers : List ℕ)
      → EveryCore l (length numbers) was (onto numbers was) → Tells (Ok numbers)
  listed_says some few room numbers every =
      record {
        no_tasks = (λ e. cc, λ z. absurd (omega (arith, some, z)));
        many_rules = (λ e. cc, λ h. absurd (omega (arith, few, h.1)));
        short_buffer = (λ e. cc, λ h. absurd (omega (arith, room, h.2)));
        one = inr (inr (inr (length numbers, refl)));
        buffer_kept = λ r e. cc;
        gives = λ count e. let same : length numbers ≡ count = cc in subst (λ (n : ℕ). EveryCore l n was (onto numbers was)) same every;
      }

  pub enumerating_says : Sound l → Tells (enumerating_on l (length was))
  enumerating_says sound = begun (eqb (length l.tasks) 0) refl
    where
      with_room : 1 ≤ length l.tasks → length l.rules ≤ short → (b : Bool) → ltb (length was) max_cores ≡ b
          → Tells (pick b (Err ShortBuffer) (Ok (cores_of (problem l))))
      with_room some few true e = short_buffer_says some few (ltb→lt (length was) max_cores (true→T _ e))
      with_room some few false e =
          let room = ltb-false (length was) max_cores e in
          listed_says some few room (cores_of (problem l)) (every_core l sound few was room)

      listable : 1 ≤ length l.tasks → (b : Bool) → ltb short (length l.rules) ≡ b
          → Tells (pick b (Err ManyRules) (pick (ltb (length was) max_cores) (Err ShortBuffer) (Ok (cores_of (problem l)))))
      listable some true e = many_rules_says some (ltb→lt short (length l.rules) (true→T _ e))
      listable some false e = with_room some (ltb-false short (length l.rules) e) (ltb (length was) max_cores) refl

      begun : (b : Bool) → eqb (length l.tasks) 0 ≡ b
          → Tells (pick b (Err NoTasks)
          (pick (ltb short (length l.rules)) (Err ManyRules) (pick (ltb (length was) max_cores) (Err ShortBuffer) (Ok (cores_of (problem l))))))
      begun true e = no_tasks_says (eqb→eq (length l.tasks) 0 (true→T _ e))
      begun false e =
          let some : 1 ≤ length l.tasks = omega (arith, eqb-false (length l.tasks) 0 e) in
          listable some (ltb short (length l.rules)) refl

-- ---- of a set, by the tests that the code makes

pub all_says : (s : TaskSet) (was is : List ℕ) (r : Result ℕ Refusal) → r ≡ shown_as (enumerating s (length was))
    → is ≡ buffer_after (enumerating s (length was)) was → Made s → Enumerates (lists s) r was is
unfolding enumerating
all_says s was is r e f made =
    let same = made_passes s made in
    subst (λ (x : Result ℕ Refusal). Enumerates (lists s) x was is) (sym (e ∙ rw same refl))
    (subst (Enumerates (lists s) (shown_as (enumerating_on (lists s) (length was))) was) (sym (f ∙ rw same refl))
    (enumerating_says (lists s) was (made_sound s made)))

-- what is answered and left in the buffer, by the outcome
pub outcome_is : (s : TaskSet) (was : List ℕ) (r : Outcome) → enumerating s (length was) ≡ r
    → (shown_as r ≡ shown_as (enumerating s (length was))) × (buffer_after r was ≡ buffer_after (enumerating s (length was)) was)
outcome_is s was r e = (ap shown_as (sym e), ap (λ (o : Outcome). buffer_after o was) (sym e))

-- the outcome at each return
pub is_14 : (s : TaskSet) (room : ℕ) → is_made s ≡ false → enumerating s room ≡ Err NotMade
unfolding enumerating
is_14 s room e = sym (on_made_14 s (λ l. enumerating_on l room) e)

module _ (s : TaskSet) (room : ℕ) (made : is_made s ≡ true) (l : Lists) (same : l ≡ lists s) where
  on_lists : enumerating s room ≡ enumerating_on l room
  unfolding enumerating
  on_lists = sym (on_made_lists s (λ (k : Lists). enumerating_on k room) made l same)

  pub is_13 : eqb (length l.tasks) 0 ≡ true → enumerating s room ≡ Err NoTasks
  is_13 none = on_lists ∙ rw none refl

  module _ (some : eqb (length l.tasks) 0 ≡ false) where
    pub is_24 : short < length l.rules → enumerating s room ≡ Err ManyRules
    is_24 many = on_lists ∙ rw (some, lt-ltb short (length l.rules) many) refl

    module _ (few : length l.rules ≤ short) where
      pub is_9 : room < max_cores → enumerating s room ≡ Err ShortBuffer
      is_9 less = on_lists ∙ rw (some, le-ltb short (length l.rules) few, lt-ltb room max_cores less) refl

      pub is_listed : max_cores ≤ room → enumerating s room ≡ Ok (cores_of (problem l))
      is_listed enough = on_lists ∙ rw (some, le-ltb short (length l.rules) few, le-ltb room max_cores enough) refl
