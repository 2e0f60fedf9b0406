-- What the call answers and leaves in the buffer for a set that calls make, over the orders that a sceptic writes out: document 02,
-- (m), sentence by sentence. Assumes nothing.
use Rattle.std.specs.Prelude.{Result, Ok, Err, ◌≡◌, Bool, List, ◌⊎◌, ◌↔◌, ℕ, ◌^◌, ◌≤◌, ◌<◌, T, length, get_or}
use Rattle.sets.specs.Numbered.{numbered, number_of}
use Rattle.taskset.specs.declared.refusals.Refusal.{Refusal}
use Rattle.taskset.specs.declared.refusals.Refusal.TheVariants.{ShortBuffer, NoTasks, ManyRules}
use Rattle.taskset.specs.Model.{Lists}
use Rattle.assignment.specs.Orders.{every_rule, no_rule, SomeOrder, UnschedulabilityCore, Works}

-- so many cores are listed in a buffer that was so and is so now
pub record EveryCore (l : Lists) (count : ℕ) (was is : List ℕ) : Type 0 where
  -- each number is a core, of the rules that it has by its bits, and of no others
  pub cores : (i : ℕ) → i < count → UnschedulabilityCore l (numbered (get_or is i 0))
  pub rules : (i : ℕ) → i < count → get_or is i 0 < 2 ^ length l.rules
  -- all cores are listed, as a number in which the rules, by place, count 1, 2, 4 and so on
  pub all : (A : ℕ → Bool) → UnschedulabilityCore l A → (i : ℕ) × (i < count) × (get_or is i 0 ≡ number_of (length l.rules) A)
  -- each exactly once
  pub once : (i j : ℕ) → i < count → j < count → get_or is i 0 ≡ get_or is j 0 → i ≡ j
  -- the numbers stand in rising order
  pub rising : (i j : ℕ) → i < j → j < count → get_or is i 0 < get_or is j 0
  -- at the front of the buffer, whose rest keeps its values
  pub front : count ≤ length was
  pub size : length is ≡ length was
  pub rest : (i : ℕ) → count ≤ i → get_or is i 0 ≡ get_or was i 0
  -- dropping a set of rules lets a valid order through exactly when the set shares a rule with every listed core
  pub drops : (X : ℕ → Bool)
      → Works l X ↔ ((i : ℕ) → i < count → (k : ℕ) × (k < length l.rules) × T (X k) × T (numbered (get_or is i 0) k))
  -- without an order even without rules the one core is the empty set, which is number 0
  pub hopeless : (SomeOrder l no_rule → ⊥) ↔ ((count ≡ 1) × (get_or is 0 0 ≡ 0))
  -- with an order that keeps every rule there is none
  pub none : SomeOrder l every_rule ↔ (count ≡ 0)
  -- a buffer for 924 has room for any
  pub most : count ≤ 924

pub record Enumerates (l : Lists) (r : Result ℕ Refusal) (was is : List ℕ) : Type 0 where
  -- 13 for a set without tasks; after it 24 for more than 12 rules; after it 9 for a buffer for fewer than 924 cores; and nothing
  -- else is refused
  pub no_tasks : (r ≡ Err NoTasks) ↔ (length l.tasks ≡ 0)
  pub many_rules : (r ≡ Err ManyRules) ↔ ((1 ≤ length l.tasks) × (12 < length l.rules))
  pub short_buffer : (r ≡ Err ShortBuffer) ↔ ((1 ≤ length l.tasks) × (length l.rules ≤ 12) × (length was < 924))
  pub one : (r ≡ Err NoTasks) ⊎ (r ≡ Err ManyRules) ⊎ (r ≡ Err ShortBuffer) ⊎ ((count : ℕ) × (r ≡ Ok count))
  -- with the buffer as it was
  pub buffer_kept : (refusal : Refusal) → r ≡ Err refusal → is ≡ was
  -- else the answer is the count of the cores
  pub gives : (count : ℕ) → r ≡ Ok count → EveryCore l count was is
