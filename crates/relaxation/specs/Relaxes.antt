-- What the answer says of a set that calls make, over the orders that a sceptic writes out: document 02, (f), sentence by sentence.
-- Assumes nothing.
use Rattle.std.specs.Prelude.{Result, Ok, Err, Some, ◌≡◌, Bool, List, ◌⊎◌, ◌↔◌, ℕ, ◌+◌, ◌*◌, ◌≤◌, ◌<◌, T, eqb, length, get_or}
use Rattle.sets.specs.Bounded.{every, without}
use Rattle.sets.specs.Sum.{sum}
use Rattle.sets.specs.Marks.{marked}
use Rattle.taskset.specs.declared.refusals.Refusal.{Refusal}
use Rattle.taskset.specs.declared.refusals.Refusal.TheVariants.{NoTasks, Budget}
use Rattle.taskset.specs.Model.{Lists}
use Rattle.assignment.specs.Orders.{no_rule, SomeOrder, UnschedulabilityCore, Works}
use Rattle.relaxation.specs.declared.Relaxation.{Relaxation}
use Rattle.relaxation.specs.declared.Relaxed.{Relaxed}
use Rattle.relaxation.specs.Weights.{weight_of, least_weight}
use Rattle.relaxation.specs.Relaxing.{none_relaxed}

-- the rules of the listed core with this number
abbrev pub in_core : List ℕ → ℕ → ℕ → Bool
in_core numbers j k = eqb (get_or numbers k 0) j

-- of a relaxation, with so many sets of rules solved
pub record Relieves (l : Lists) (budget : ℕ) (a : Relaxation) (count : ℕ) : Type 0 where
  -- a set of the rules to drop so that a valid order exists
  pub rules : (k : ℕ) → T (marked a.dropped k) → k < length l.rules
  pub works : Works l (marked a.dropped)
  -- its weight
  pub weight : a.weight ≡ weight_of l.rules (marked a.dropped)
  -- and a floor below which no working set's weight lies
  pub floor : (X : ℕ → Bool) → Works l X → a.floor ≤ weight_of l.rules X
  -- it also lists cores, numbered from 1; each has a rule, and what has a number is a rule in one of them
  pub cores : (j : ℕ) → 1 ≤ j → j ≤ a.ncores → UnschedulabilityCore l (in_core a.cores j)
  pub listed : (j : ℕ) → 1 ≤ j → j ≤ a.ncores → (k : ℕ) × (k < length l.rules) × T (in_core a.cores j k)
  pub numbers : (k : ℕ) → get_or a.cores k 0 ≤ a.ncores
  pub members : (k : ℕ) → 1 ≤ get_or a.cores k 0 → k < length l.rules
  -- no two sharing a rule
  pub apart : (i j k : ℕ) → T (in_core a.cores i k) → T (in_core a.cores j k) → i ≡ j
  -- and the floor is at least the sum of the least weights in each
  pub least : sum a.ncores every (λ j. least_weight l.rules (length l.rules) (in_core a.cores (j + 1))) ≤ a.floor
  -- with a budget above the number of rules, no dropped rule can be put back alone with a valid order left
  pub back : length l.rules < budget → (k : ℕ) → T (marked a.dropped k) → Works l (without (marked a.dropped) k) → ⊥
  -- with a budget above twice the number of rules and a rule dropped, at least one core is listed
  pub some : 2 * length l.rules < budget → (k : ℕ) → T (marked a.dropped k) → 1 ≤ a.ncores
  -- with at most 12 rules and a budget of at least 4,096 the floor equals the weight, and no non-empty core avoids all those listed
  pub exact : length l.rules ≤ 12 → 4_096 ≤ budget → a.floor ≡ a.weight
  pub meets : length l.rules ≤ 12 → 4_096 ≤ budget → (A : ℕ → Bool) → UnschedulabilityCore l A → (k : ℕ) → k < length l.rules → T (A k)
      → (i : ℕ) × (i < length l.rules) × T (A i) × (1 ≤ get_or a.cores i 0)
  -- the count never passes the budget
  pub within : count ≤ budget

pub record Relaxes (l : Lists) (budget : ℕ) (r : Result Relaxed Refusal) : Type 0 where
  -- 13 for a set without tasks; after it 16 for a budget of 0 or over 10,000; and nothing else is refused
  pub no_tasks : (r ≡ Err NoTasks) ↔ (length l.tasks ≡ 0)
  pub no_budget : (r ≡ Err Budget) ↔ ((1 ≤ length l.tasks) × ((budget ≡ 0) ⊎ (10_000 < budget)))
  pub one : (r ≡ Err NoTasks) ⊎ (r ≡ Err Budget) ⊎ (r ≡ Ok none_relaxed)
      ⊎ ((a : Relaxation) × (n : ℕ) × (r ≡ Ok (record { relaxation = Some a; count = n })))
  -- where no order exists without rules the answer is none with count 1 and nothing else
  pub none : 1 ≤ length l.tasks → 1 ≤ budget → budget ≤ 10_000 → (r ≡ Ok none_relaxed) ↔ (SomeOrder l no_rule → ⊥)
  -- else a relaxation
  pub gives : (a : Relaxation) (n : ℕ) → r ≡ Ok (record { relaxation = Some a; count = n }) → Relieves l budget a n
