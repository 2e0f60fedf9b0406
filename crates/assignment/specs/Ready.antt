-- Laws of the ready tasks, rule by rule, and of the greatest candidate: what one turn of a loop does. Assumes nothing.
use Rattle.std.specs.Prelude.{Option, Some, None, is_some, option_map}
use Rattle.std.specs.Prelude.{◌≡◌, refl, Bool, true, false, ◌&&◌, not, List, ℕ, suc, ◌+◌, ◌-◌, ◌<◌, T, eqb, length, set}
use Rattle.std.proofs.Common.{sym, subst, ◌∙◌, arith, eqb-true}
use Rattle.std.proofs.Math.Path.{ap, fun_ext}
use Rattle.sets.specs.Choice.{pick, and_left, and-true}
use Rattle.sets.specs.Bounded.{without, all, all-next, greatest, greatest_at, greatest_under}
use Rattle.sets.specs.Marks.{marked, marked_store}
use Rattle.taskset.specs.declared.Rule.{Rule}
use Rattle.taskset.specs.declared.Task.{Task}
use Rattle.taskset.specs.Model.{task_at, rule_at, SoundTasks}
use Rattle.response.specs.Equation.{demand}
use Rattle.response.specs.Timing.{timing_of, up_to_deadline}
use Rattle.response.specs.TimingLaws.{timing_stops}
use Rattle.assignment.specs.Audsley.{Test, blocks, ready, response_at}
use Rattle.assignment.specs.Search.{index, time, candidate, within, choice_of, chosen}

-- ---- ready tasks

-- the tasks that the first k rules leave ready
unfoldable pub ready_by : ℕ → List Rule → (ℕ → Bool) → (ℕ → Bool) → ℕ → Bool
ready_by k rules active left i = left i && all k (λ q. not (blocks rules active left i q))

-- it is one of the tasks left
pub ready-left : (rules : List Rule) (active left : ℕ → Bool) {readies : ℕ → Bool} → readies ≡ ready rules active left → (i : ℕ) → T (readies i)
    → T (left i)
unfolding ready
ready-left rules active left e i t =
    and_left (left i) (all (length rules) (λ k. not (blocks rules active left i k))) (subst (λ (f : ℕ → Bool). T (f i)) e t)

pub ready_start : (rules : List Rule) (active left : ℕ → Bool) → left ≡ ready_by 0 rules active left
unfolding ready_by all
ready_start rules active left = fun_ext (λ i. and-true (left i))

named : (f rest x : Bool) → ((f && rest) && not x) ≡ (f && (not (x && true) && rest))
named true true true = refl
named true true false = refl
named true false true = refl
named true false false = refl
named false rest x = refl

unnamed : (f rest x : Bool) → (f && rest) ≡ (f && (not (x && false) && rest))
unnamed f rest true = refl
unnamed f rest false = refl

-- one rule more: its higher task stays only where the rule is not active or its lower task has a level
pub ready_turn : (now : List Bool) (k : ℕ) (rules : List Rule) (active left : ℕ → Bool) → let r = rule_at rules k in
    r.higher.0 < length now → marked now ≡ ready_by k rules active left
    → marked (set now r.higher.0 (marked now r.higher.0 && not (active k && left r.lower.0))) ≡ ready_by (k + 1) rules active left
unfolding ready_by
ready_turn now k rules active left h e =
    fun_ext (λ i.
    marked_store now r.higher.0 (marked now r.higher.0 && not x) h i
    ∙ go i (eqb r.higher.0 i) refl
    ∙ ap (λ (b : Bool). left i && b) (whole i))
  where
    r : Rule
    r = rule_at rules k

    x : Bool
    x = active k && left r.lower.0

    rest : ℕ → Bool
    rest i = all k (λ q. not (blocks rules active left i q))

    at_task : (i : ℕ) → marked now i ≡ (left i && rest i)
    at_task i = ap (λ (f : ℕ → Bool). f i) e

    go : (i : ℕ) (b : Bool) → eqb r.higher.0 i ≡ b
        → pick b (marked now r.higher.0 && not x) (marked now i) ≡ (left i && (not (x && b) && rest i))
    go i true f =
        ap (λ (j : ℕ). marked now j && not x) (eqb-true r.higher.0 i f)
        ∙ ap (λ (b : Bool). b && not x) (at_task i)
        ∙ named (left i) (rest i) x
    go i false f = at_task i ∙ unnamed (left i) (rest i) x

    whole : (i : ℕ) → (not (x && eqb r.higher.0 i) && rest i) ≡ all (k + 1) (λ q. not (blocks rules active left i q))
    whole i = sym (all-next k (λ q. not (blocks rules active left i q)))

pub ready_end : (m : ℕ) (rules : List Rule) (active left : ℕ → Bool) → m ≡ length rules
    → ready_by m rules active left ≡ ready rules active left
unfolding ready_by ready
ready_end m rules active left e = rw e

-- for where a loop over the rules begins and ends
pub ruleset ready_ends = (ready_start, ready_end)

-- ---- a candidate's response

-- stopping at the deadline answers what the search to the period would
pub level_stops : (tasks : List Task) → SoundTasks tasks → (i : ℕ) → i < length tasks → (above : ℕ → Bool)
    → response_at tasks i above ≡ up_to_deadline (timing_of tasks i above)
level_stops tasks sound i h above =
    let own = task_at tasks i in
    timing_stops (demand tasks i above) own.jitter own.deadline own.period (sound.each i h).deadline.1

module _ (test : Test) (ready left : ℕ → Bool) (i : ℕ) where
  -- it is late where it isn't ready
  pub candidate_late : ready i ≡ false → candidate test ready left i ≡ None
  candidate_late off = rw off

  -- and within its deadline only where it is
  pub candidate_ready : T (is_some (candidate test ready left i)) → T (ready i)
  candidate_ready = go (ready i)
    where
      go : (b : Bool) → T (is_some (pick b (test i (without left i)) None)) → T b
      go true t = tt
      go false t = t

-- ---- the greatest candidate

-- of n candidates, when from k on all are late
module _ (n : ℕ) (candidates : ℕ → Option ℕ) where
  module _ (k : ℕ) (more : 0 < k) (e : greatest k (within candidates) ≡ greatest n (within candidates)) where
    down : suc (k - 1) ≡ k
    down = omega arith

    -- the next one down is within its deadline, or late
    pub chosen_takes : (r : ℕ) → candidates (k - 1) ≡ Some r → Some (record { task = index (k - 1); response = r }) ≡ chosen n candidates
    unfolding chosen
    chosen_takes r f =
        ap (λ (a : Option ℕ). Some (record { task = index (k - 1); response = time a })) (sym f)
        ∙ ap (option_map (choice_of candidates))
        (sym (greatest_at (k - 1) (within candidates) (ap is_some f)) ∙ ap (λ (m : ℕ). greatest m (within candidates)) down ∙ e)

    pub greatest_late : candidates (k - 1) ≡ None → greatest (k - 1) (within candidates) ≡ greatest n (within candidates)
    greatest_late f =
        sym (greatest_under (k - 1) (within candidates) (ap is_some f)) ∙ ap (λ (m : ℕ). greatest m (within candidates)) down ∙ e

  pub chosen_none : (k : ℕ) → k ≡ 0 → greatest k (within candidates) ≡ greatest n (within candidates) → None ≡ chosen n candidates
  unfolding chosen greatest
  chosen_none k z e = ap (option_map (choice_of candidates)) (ap (λ (m : ℕ). greatest m (within candidates)) (sym z) ∙ e)

-- for a loop over them from the last down
pub ruleset choosing_steps = (candidate_late, chosen_takes, greatest_late, chosen_none)
