-- Laws of replaying: one call more, and that every list of calls is one that callers can ask. Assumes nothing.
use Rattle.std.specs.Prelude.{◌≡◌, refl, List, [], ◌∷◌, ℕ, ◌+◌, ◌<◌, length, get_or, take}
use Rattle.std.proofs.Common.{sym, ap, ◌∙◌, add-one, take-suc}
use Rattle.taskset.specs.declared.TaskSet.{TaskSet}
use Rattle.taskset.specs.declared.Call.{Call}
use Rattle.taskset.specs.declared.Call.TheVariants.{AddTask, AddRule}
use Rattle.taskset.specs.Numbers.{task_numbers, rule_numbers}
use Rattle.taskset.proofs.NumbersLaws.{task_long, task_back, rule_long, rule_back}
use Rattle.taskset.specs.Adding.{fresh_set, add, run}
use Rattle.taskset.specs.Exact.{run_more}
use Rattle.replay.specs.Calls.{call_numbers, Whole, Words, Asked, FromNumbers, AllFromNumbers}

-- the first i calls, and one more
pub replay_turn : (calls : List Call) (i : ℕ) (d : Call) (now next : TaskSet) → i < length calls → now ≡ run fresh_set (take i calls)
    → next ≡ (add now (get_or calls i d)).set → next ≡ run fresh_set (take (i + 1) calls)
replay_turn calls i d now next h e f =
    f
    ∙ ap (λ (s : TaskSet). (add s (get_or calls i d)).set) e
    ∙ sym (run_more fresh_set (take i calls) (get_or calls i d))
    ∙ ap (run fresh_set) (rw add-one (sym (take-suc calls i d h)))

-- so of the set that they make
pub run_turn : (calls : List Call) (i : ℕ) (d : Call) → i < length calls
    → (add (run fresh_set (take i calls)) (get_or calls i d)).set ≡ run fresh_set (take (i + 1) calls)
run_turn calls i d h = replay_turn calls i d _ _ h refl refl

-- numbers that the types hold give each call that is asked
from_numbers : (c : Call) → Words (call_numbers c) → Whole c → FromNumbers c
from_numbers (AddTask t) ws whole = (task_numbers t, ws, task_long t whole, task_back t whole)
from_numbers (AddRule r) ws whole = (rule_numbers r, ws, rule_long r, rule_back r)

all_from_numbers : (cs : List Call) → Asked cs → AllFromNumbers cs
all_from_numbers [] a = tt
all_from_numbers (c ∷ cs) a = (from_numbers c a.0 a.1, all_from_numbers cs a.2)

-- so nothing that callers can ask is left out: the slice of calls may be any list of them
pub every_list : (cs : List Call) → Asked cs → (calls : List Call) × Asked calls × AllFromNumbers calls × (calls ≡ cs)
every_list cs a = (cs, a, all_from_numbers cs a, refl)
