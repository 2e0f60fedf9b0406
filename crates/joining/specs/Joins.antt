-- What the answer says of a set that calls make, over the orders that a sceptic writes out: document 02, (g), sentence by sentence.
-- Assumes nothing.
use Rattle.std.specs.Prelude.{◌≡◌, ◌⊎◌, ◌↔◌, Result, Ok, Err, List, ℕ, suc, ◌+◌, ◌≤◌, ◌<◌, T, max, min, length}
use Rattle.sets.specs.Bounded.{count}
use Rattle.sets.specs.Rank.{rank}
use Rattle.taskset.specs.declared.Task.{Task}
use Rattle.taskset.specs.declared.Rule.{Rule}
use Rattle.taskset.specs.declared.TaskSet.{TaskSet}
use Rattle.taskset.specs.declared.Changed.{Changed}
use Rattle.taskset.specs.declared.refusals.Refusal.{Refusal}
use Rattle.taskset.specs.declared.refusals.Refusal.TheVariants.{Execution, SameTask, NoSuchTask, DifferentPeriods, BothWays}
use Rattle.taskset.specs.Refusals.{resources, section_on}
use Rattle.taskset.specs.Model.{Lists, task_at, rule_at}
use Rattle.taskset.specs.Adding.{lists, Made}
use Rattle.assignment.specs.Orders.{every_rule, ValidOrder}
use Rattle.joining.specs.Joining.{new_place, stays}
use Rattle.joining.specs.SideBySide.{side_by_side}

-- ---- when it is turned away

-- two tasks of the lists, and of one period
pub record Two (l : Lists) (p q : ℕ) : Type 0 where
  pub apart : p ≡ q → ⊥
  pub one : p < length l.tasks
  pub other : q < length l.tasks

abbrev pub OnePeriod : Lists → ℕ → ℕ → Type 0
OnePeriod l p q = (task_at l.tasks p).period ≡ (task_at l.tasks q).period

-- a rule that puts the one above the other, and that there is one
abbrev pub Puts : ℕ → ℕ → Rule → Type 0
Puts higher lower r = (r.higher.0 ≡ higher) × (r.lower.0 ≡ lower)

abbrev pub Ruled : Lists → ℕ → ℕ → Type 0
Ruled l higher lower = (k : ℕ) × (k < length l.rules) × Puts higher lower (rule_at l.rules k)

abbrev pub RuledBothWays : Lists → ℕ → ℕ → Type 0
RuledBothWays l p q = Ruled l p q × Ruled l q p

abbrev pub PastPeriod : Lists → ℕ → ℕ → Type 0
PastPeriod l p q = (task_at l.tasks p).period < (task_at l.tasks p).execution + (task_at l.tasks q).execution

-- none of these
pub record Joinable (l : Lists) (p q : ℕ) : Type 0 where
  pub two : Two l p q
  pub period : OnePeriod l p q
  pub free : RuledBothWays l p q → ⊥
  pub fits : PastPeriod l p q → ⊥

-- turned away: equal places, a missing one, different periods, rules between the two both ways, a sum past the period; and nothing
-- else is. Exactly one of these cases is there
pub data JoinAnswer (l : Lists) (p q : ℕ) : Result (Unit {0}) Refusal → Type 0 where
  same_task : p ≡ q → JoinAnswer l p q (Err SameTask)
  no_task : (p ≡ q → ⊥) → (length l.tasks ≤ p) ⊎ (length l.tasks ≤ q) → JoinAnswer l p q (Err NoSuchTask)
  periods : Two l p q → (OnePeriod l p q → ⊥) → JoinAnswer l p q (Err DifferentPeriods)
  ruled_both_ways : Two l p q → OnePeriod l p q → RuledBothWays l p q → JoinAnswer l p q (Err BothWays)
  too_long : Two l p q → OnePeriod l p q → (RuledBothWays l p q → ⊥) → PastPeriod l p q → JoinAnswer l p q (Err Execution)
  taken : Joinable l p q → JoinAnswer l p q (Ok tt)

-- ---- the joined lists

-- the row of the join
pub record IsJoint (one other join : Task) : Type 0 where
  pub period : (join.period ≡ one.period) × (join.period ≡ other.period)
  -- the sum of the execution times, the smaller deadline, the larger jitter and, per resource, the longer section
  pub execution : join.execution ≡ one.execution + other.execution
  pub deadline : join.deadline ≡ min one.deadline other.deadline
  pub jitter : join.jitter ≡ max one.jitter other.jitter
  pub sections : (k : ℕ) → k < resources → section_on join k ≡ max (section_on one k) (section_on other k)

-- a rule that stands between the two
abbrev pub IsBetween : ℕ → ℕ → Rule → Type 0
IsBetween p q r = Puts p q r ⊎ Puts q p r

-- a rule with its tasks' new places, and its own weight
pub record IsRenamed (low high : ℕ) (r new : Rule) : Type 0 where
  pub higher : new.higher.0 ≡ new_place low high r.higher.0
  pub lower : new.lower.0 ≡ new_place low high r.lower.0
  pub weight : new.weight ≡ r.weight

-- one way round: the two, of which no rule puts the lower above the upper
pub record Way (l : Lists) (p q upper lower : ℕ) : Type 0 where
  pub places : ((upper ≡ p) × (lower ≡ q)) ⊎ ((upper ≡ q) × (lower ≡ p))
  pub against : Ruled l lower upper → ⊥

-- of the tasks at p and q, of which low is the smaller place and high the larger
pub record AreJoined (l : Lists) (p q low high : ℕ) (new : Lists) : Type 0 where
  -- the join takes the smaller place
  pub row : IsJoint (task_at l.tasks p) (task_at l.tasks q) (task_at new.tasks low)
  -- later task places close up
  pub tasks : length l.tasks ≡ suc (length new.tasks)
  pub others : (j : ℕ) → j < length l.tasks → (j ≡ p → ⊥) → (j ≡ q → ⊥) → task_at new.tasks (new_place low high j) ≡ task_at l.tasks j
  -- rules between the two vanish
  pub stay : (k : ℕ) → T (stays low high l.rules k) ↔ (IsBetween p q (rule_at l.rules k) → ⊥)
  pub rules : length new.rules ≡ count (length l.rules) (stays low high l.rules)
  -- the others are renamed, and later rule places close up: each stands behind those that stay before it
  pub renames : (k : ℕ) → k < length l.rules → T (stays low high l.rules k)
      → IsRenamed low high (rule_at l.rules k) (rule_at new.rules (count k (stays low high l.rules)))
  -- from every valid order of the joined lists, putting the two side by side gives a valid order of the old ones: the way round
  -- that a rule between them has, and either where there is none
  pub orders : (upper lower : ℕ) → Way l p q upper lower → (order : List ℕ) → ValidOrder new every_rule order
      → ValidOrder l every_rule (side_by_side upper lower order)
  -- the lower one straight after the upper one
  pub next : (upper lower : ℕ) → Way l p q upper lower → (order : List ℕ) → ValidOrder new every_rule order
      → rank (side_by_side upper lower order) lower ≡ suc (rank (side_by_side upper lower order) upper)
  -- and there is such a way round
  pub some_way : Way l p q p q ⊎ Way l p q q p

-- ---- of a set that calls make, two places, and what the call gives

pub record Joins (s : TaskSet) (p q : ℕ) (r : Changed) : Type 0 where
  pub answer : JoinAnswer (lists s) p q r.answer
  -- refused, with the set as it was
  pub kept : (r.answer ≡ Ok tt → ⊥) → r.set ≡ s
  -- taken, with the joined lists
  pub joined : r.answer ≡ Ok tt → AreJoined (lists s) p q (min p q) (max p q) (lists r.set)
  -- and the set is one that calls make
  pub made : Made r.set
