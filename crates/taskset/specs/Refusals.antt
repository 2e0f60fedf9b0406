-- Document 01, "The sheet" and "Refusals": sizes, the ranges of a row with the sections of document 02, (c), a rule's weight of (f),
-- and which refusals an adding call meets. Assumes nothing.
use Rattle.std.specs.Prelude.{◌≡◌, Bool, true, false, ◌||◌, List, [], ◌∷◌, ◌++◌, ℕ, ◌-◌, ◌≤◌, ◌<◌, leb, ltb, eqb, get_or, Result, Ok, Err, is_ok}
use Rattle.sets.specs.Choice.{pick}
use Rattle.sets.specs.Bounded.{every, all}
use Rattle.sets.specs.Maximum.{maximum}
use Rattle.taskset.specs.declared.refusals.Refusal.{Refusal}
use Rattle.taskset.specs.declared.refusals.Refusal.TheVariants.{Period, Execution, Deadline, Jitter, Section, SameTask, FullTasks, NoSuchTask, FullRules, Weight}
use Rattle.taskset.specs.declared.Task.{Task}
use Rattle.taskset.specs.declared.Rule.{Rule}
use Rattle.taskset.specs.declared.Call.{Call}
use Rattle.taskset.specs.declared.Call.TheVariants.{AddTask, AddRule}

-- the most tasks and rules of a set, the longest period in microseconds, and the greatest weight of a rule
abbrev pub max_tasks : ℕ
max_tasks = 64

abbrev pub max_rules : ℕ
max_rules = 128

abbrev pub max_period : ℕ
max_period = 1_000_000

abbrev pub max_weight : ℕ
max_weight = 1_000

-- ---- document 02, (c): critical sections

-- the resources, which are numbered from 0
abbrev pub resources : ℕ
resources = 8

-- the length of a task's section on a resource, 0 where it does not use it; and the longest
unfoldable pub section_on : Task → ℕ → ℕ
section_on t k = get_or t.sections k 0

unfoldable pub longest_section : Task → ℕ
longest_section t = maximum resources every (section_on t)

-- a task that uses no resource
unfoldable pub uses_none : Task → Bool
uses_none t = all resources (λ k. eqb (section_on t k) 0)

-- ---- refusals

-- a condition that a call may meet: why it is refused then, whether it applies, and whether the check of 14 counts it
pub record Condition : Type 0 where
  pub refusal : Refusal
  pub applies : Bool
  pub counted : Bool

-- of an entry itself, and of a list that has no room for one more
abbrev pub entry_by : Refusal → Bool → Condition
entry_by r applies = record { refusal = r; applies = applies; counted = true }

abbrev pub full_by : Refusal → Bool → Condition
full_by r applies = record { refusal = r; applies = applies; counted = false }

-- refused by the first that applies, taken where none does
abbrev pub first_of : List Condition → Result (Unit {0}) Refusal
first_of [] = Ok tt
first_of (c ∷ cs) = pick c.applies (Err c.refusal) (first_of cs)

-- those that the check of 14 counts
abbrev pub counted_of : List Condition → List Condition
counted_of [] = []
counted_of (r ∷ rs) = pick r.counted (r ∷ counted_of rs) (counted_of rs)

-- ---- of a task and of a rule

-- x is not one of low to high
abbrev pub outside : ℕ → ℕ → ℕ → Bool
outside low high x = ltb x low || ltb high x

-- a row's ranges
unfoldable pub row_refusals : Task → List Condition
row_refusals t =
    entry_by Period (outside 1 max_period t.period)
    ∷ entry_by Execution (outside 1 t.period t.execution)
    ∷ entry_by Deadline (outside 1 t.period t.deadline)
    ∷ entry_by Jitter (outside 0 (t.period - 1) t.jitter)
    ∷ entry_by Section (outside 0 t.execution (longest_section t))
    ∷ []

-- two places in a set of n tasks, as a rule and a join name them
unfoldable pub place_refusals : ℕ → ℕ → ℕ → List Condition
place_refusals n i j = entry_by SameTask (eqb i j) ∷ entry_by NoSuchTask (leb n i || leb n j) ∷ []

-- a rule's two task indices
abbrev pub index_refusals : ℕ → Rule → List Condition
index_refusals n r = place_refusals n r.higher.0 r.lower.0

-- and its weight
unfoldable pub weight_refusals : Rule → List Condition
weight_refusals r = entry_by Weight (outside 1 max_weight r.weight) ∷ []

-- what an adding call to n tasks and m rules meets, in the paper's order
abbrev pub refusals : ℕ → ℕ → Call → List Condition
refusals n m (AddTask t) = row_refusals t ++ full_by FullTasks (leb max_tasks n) ∷ []
refusals n m (AddRule r) = index_refusals n r ++ full_by FullRules (leb max_rules m) ∷ weight_refusals r

-- refused or taken
unfoldable pub refusal_by : ℕ → ℕ → Call → Result (Unit {0}) Refusal
refusal_by n m c = first_of (refusals n m c)

-- it is refused by none that the check of 14 counts
unfoldable pub entry_fits : ℕ → ℕ → Call → Bool
entry_fits n m c = is_ok (first_of (counted_of (refusals n m c)))

-- ---- the same as facts: a row within its ranges, a rule between two tasks of n, and its weight

pub record InRanges (t : Task) : Type 0 where
  pub period : (1 ≤ t.period) × (t.period ≤ max_period)
  pub execution : (1 ≤ t.execution) × (t.execution ≤ t.period)
  pub deadline : (1 ≤ t.deadline) × (t.deadline ≤ t.period)
  pub jitter : t.jitter < t.period
  pub sections : (k : ℕ) → k < resources → section_on t k ≤ t.execution

pub record Between (n : ℕ) (r : Rule) : Type 0 where
  pub apart : r.higher.0 ≡ r.lower.0 → ⊥
  pub higher : r.higher.0 < n
  pub lower : r.lower.0 < n

pub record Weighed (r : Rule) : Type 0 where
  pub least : 1 ≤ r.weight
  pub most : r.weight ≤ max_weight

-- what a call may ask of n tasks, and that its list has room
abbrev pub Acceptable : ℕ → Call → Type 0
Acceptable n (AddTask t) = InRanges t
Acceptable n (AddRule r) = Between n r × Weighed r

abbrev pub Room : ℕ → ℕ → Call → Type 0
Room n m (AddTask t) = n < max_tasks
Room n m (AddRule r) = m < max_rules
