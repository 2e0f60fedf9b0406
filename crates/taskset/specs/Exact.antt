-- Refusal 14 is exact: the check passes just the sets that calls make. Assumes nothing.
use Rattle.std.specs.Prelude.{◌≡◌, refl, Bool, true, List, [], ◌∷◌, ◌++◌, map, ◌↔◌, ℕ, suc, ◌+◌, ◌≤◌, ◌<◌, length}
use Rattle.std.proofs.Common.{sym, ap, subst, ◌∙◌, append-nil, suc-le-suc, zero-lt-suc, arith, length-append}
use Rattle.std.proofs.Math.Seq.{append_snoc}
use Rattle.taskset.specs.declared.Task.{Task}
use Rattle.taskset.specs.declared.Rule.{Rule}
use Rattle.taskset.specs.declared.TaskSet.{TaskSet}
use Rattle.taskset.specs.declared.Call.{Call}
use Rattle.taskset.specs.declared.Call.TheVariants.{AddTask, AddRule}
use Rattle.taskset.specs.Refusals.{max_tasks, max_rules, InRanges, Between, Weighed, Acceptable, Room}
use Rattle.taskset.specs.Model.{Lists, no_lists, extended, hear, heard, task_at, rule_at, Sound}
use Rattle.taskset.specs.Adding.{holding, lists, fresh_set, is_made, add, run, Made}
use Rattle.taskset.specs.RefusalLaws.{taken_exactly}
use Rattle.taskset.specs.Holding.{lists-holding, none_sound, heard_sound, sound_made, run-holding}
use Rattle.taskset.specs.Passing.{Sized, passed}

-- ---- what calls make passes

pub made_holding : (s : TaskSet) → Made s → (l : Lists) × Sound l × (s ≡ holding l)
unfolding Made
made_holding s m =
    (heard no_lists m.0, heard_sound no_lists none_sound m.0, sym m.1 ∙ run-holding no_lists none_sound m.0)

pub made_passes : (s : TaskSet) → Made s → is_made s ≡ true
made_passes s m = let h = made_holding s m in ap is_made h.2 ∙ sound_made h.0 h.1

-- so adding has taken its lists
pub made_sound : (s : TaskSet) → Made s → Sound (lists s)
made_sound s m = let h = made_holding s m in subst Sound (sym (lists-holding h.0) ∙ ap lists (sym h.2)) h.1

-- ---- lists that adding takes are heard whole

hear_taken : (l : Lists) (c : Call) → Acceptable (length l.tasks) c → Room (length l.tasks) (length l.rules) c
    → hear l c ≡ extended l c
unfolding hear
hear_taken l c ok room = rw ((taken_exactly (length l.tasks) (length l.rules) c).1 (ok, room))

hear_tasks : (ts : List Task) (l : Lists) (cs : List Call) → length l.tasks + length ts ≤ max_tasks
    → ((i : ℕ) → i < length ts → InRanges (task_at ts i))
    → heard l (map AddTask ts ++ cs) ≡ heard (record { tasks = l.tasks ++ ts; rules = l.rules }) cs
unfolding heard
hear_tasks [] l cs h each = rw (append-nil l.tasks)
hear_tasks (t ∷ ts) l cs h each =
    let longer = length-append l.tasks (t ∷ []) in
    ap (λ (k : Lists). heard k (map AddTask ts ++ cs)) (hear_taken l (AddTask t) (each 0 (zero-lt-suc (length ts))) (omega arith))
    ∙ hear_tasks ts (extended l (AddTask t)) cs (omega arith) (λ i k. each (suc i) (suc-le-suc k))
    ∙ rw (append_snoc l.tasks t ts)

hear_rules : (rs : List Rule) (l : Lists) → length l.rules + length rs ≤ max_rules
    → ((k : ℕ) → k < length rs → Between (length l.tasks) (rule_at rs k) × Weighed (rule_at rs k))
    → heard l (map AddRule rs) ≡ record { tasks = l.tasks; rules = l.rules ++ rs }
unfolding heard
hear_rules [] l h each = rw (append-nil l.rules)
hear_rules (r ∷ rs) l h each =
    let longer = length-append l.rules (r ∷ []) in
    ap (λ (k : Lists). heard k (map AddRule rs)) (hear_taken l (AddRule r) (each 0 (zero-lt-suc (length rs))) (omega arith))
    ∙ hear_rules rs (extended l (AddRule r)) (omega arith) (λ i k. each (suc i) (suc-le-suc k))
    ∙ rw (append_snoc l.rules r rs)

abbrev pub calls_of : Lists → List Call
calls_of l = map AddTask l.tasks ++ map AddRule l.rules

pub heard_all : (l : Lists) → Sound l → heard no_lists (calls_of l) ≡ l
heard_all l s =
    hear_tasks l.tasks no_lists (map AddRule l.rules) (omega (arith, s.tasks.few)) s.tasks.each
    ∙ hear_rules l.rules (record { tasks = l.tasks; rules = [] }) (omega (arith, s.few_rules)) (λ k h. (s.indices k h, s.weights k h))

-- ---- so the set that holds such lists is made by calls, and what passes is

pub sound_holding : (l : Lists) → Sound l → Made (holding l)
unfolding Made
sound_holding l sound = (calls_of l, run-holding no_lists none_sound (calls_of l) ∙ ap holding (heard_all l sound))

pub passes_made : (s : TaskSet) → Sized s → is_made s ≡ true → Made s
passes_made s size e = let p = passed s size e in subst Made p.holds (sound_holding (lists s) p.sound)

-- an answer that is the check's says whether calls make the set
pub passes_exact : (s : TaskSet) → Sized s → (r : Bool) → r ≡ is_made s → (r ≡ true) ↔ Made s
passes_exact s size r e = (λ t. passes_made s size (sym e ∙ t), λ m. e ∙ made_passes s m)

-- a further call on what calls make makes a set that calls make
pub run_more : (s : TaskSet) (calls : List Call) (c : Call) → run s (calls ++ c ∷ []) ≡ (add (run s calls) c).set
unfolding run
run_more s [] c = refl
run_more s (x ∷ xs) c = run_more (add s x).set xs c

pub add_made : (s : TaskSet) → Made s → (c : Call) → Made (add s c).set
unfolding Made
add_made s m c = (m.0 ++ c ∷ [], run_more fresh_set m.0 c ∙ ap (λ (x : TaskSet). (add x c).set) m.1)
