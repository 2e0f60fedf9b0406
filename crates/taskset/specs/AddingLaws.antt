-- Laws of an adding call as the code makes it, one for each way it ends. Assumes nothing.
use Rattle.std.specs.Prelude.{◌≡◌, true, false, [], ◌∷◌, ℕ, ◌+◌, ◌<◌, length, Ok, Err}
use Rattle.std.proofs.Common.{sym, ap, ◌∙◌, length-append}
use Rattle.std.proofs.Math.ListN.{set}
use Rattle.sets.specs.Pad.{set-pad}
use Rattle.taskset.specs.declared.refusals.Refusal.{Refusal}
use Rattle.taskset.specs.declared.refusals.Refusal.TheVariants.{NotMade}
use Rattle.taskset.specs.declared.Task.{Task}
use Rattle.taskset.specs.declared.Rule.{Rule}
use Rattle.taskset.specs.declared.TaskSet.{TaskSet}
use Rattle.taskset.specs.declared.Call.{Call}
use Rattle.taskset.specs.declared.Call.TheVariants.{AddTask, AddRule}
use Rattle.taskset.specs.Refusals.{max_tasks, max_rules, Room, refusal_by}
use Rattle.taskset.specs.Model.{Lists, refusal_of, extended, blank_task, blank_rule}
use Rattle.taskset.specs.Adding.{holding, lists, is_made, add}
use Rattle.taskset.specs.RefusalLaws.{taken_exactly}
use Rattle.taskset.specs.Passing.{Sized, passed}

-- the set with the new entry stored after the used ones
abbrev pub stored : TaskSet → Call → TaskSet
stored s (AddTask t) =
    record { tasks = set s.tasks s.ntasks t; ntasks = s.ntasks + 1; rules = s.rules; nrules = s.nrules }
stored s (AddRule r) =
    record { tasks = s.tasks; ntasks = s.ntasks; rules = set s.rules s.nrules r; nrules = s.nrules + 1 }

stored-holding : (l : Lists) (c : Call) → Room (length l.tasks) (length l.rules) c
    → stored (holding l) c ≡ holding (extended l c)
stored-holding l (AddTask t) h = rw (set-pad max_tasks blank_task l.tasks t h, length-append l.tasks (t ∷ []))
stored-holding l (AddRule r) h = rw (set-pad max_rules blank_rule l.rules r h, length-append l.rules (r ∷ []))

-- by whether the set passes the check
pub add_14 : (s : TaskSet) (c : Call) → is_made s ≡ false → record { answer = Err NotMade; set = s } ≡ add s c
unfolding add
add_14 s c e = rw e

pub add_answer : (s : TaskSet) (c : Call) → is_made s ≡ true → (add s c).answer ≡ refusal_of (lists s) c
unfolding add
add_answer s c e = rw e

pub ruleset adding = (add_14, add_answer)

-- there is room for what is taken
pub task_room : (n m : ℕ) (t : Task) → refusal_by n m (AddTask t) ≡ Ok tt → n < max_tasks
task_room n m t e = ((taken_exactly n m (AddTask t)).0 e).1

pub rule_room : (n m : ℕ) (r : Rule) → refusal_by n m (AddRule r) ≡ Ok tt → m < max_rules
rule_room n m r e = ((taken_exactly n m (AddRule r)).0 e).1

-- a call on a set that passes the check, by what the code finds by the counts
module _ (s : TaskSet) (c : Call) (size : Sized s) (made : is_made s ≡ true) where
  pub by_lists : refusal_of (lists s) c ≡ refusal_by s.ntasks s.nrules c
  by_lists = let p = passed s size made in rw (p.ntasks, p.nrules)

  pub add_refused : (r : Refusal) → refusal_by s.ntasks s.nrules c ≡ Err r → (add s c).set ≡ s
  unfolding add
  add_refused r e = rw (made, by_lists ∙ e)

  pub add_taken : refusal_by s.ntasks s.nrules c ≡ Ok tt → (add s c).set ≡ stored s c
  unfolding add
  add_taken e =
      let p = passed s size made in
      let z = by_lists ∙ e in
      let room = ((taken_exactly (length (lists s).tasks) (length (lists s).rules) c).0 z).1 in
      rw (made, z) (sym (stored-holding (lists s) c room) ∙ ap (λ (t : TaskSet). stored t c) p.holds)

pub ruleset hearing = (by_lists, add_refused, add_taken, task_room, rule_room)
