-- Orders that were found and the rules that they keep, and sets that were tried in vain. Assumes nothing.
use Rattle.std.specs.Prelude.{◌≡◌, Bool, false, List, ℕ, ◌+◌, ◌≤◌, ◌<◌, T, eqb, ltb, length, get_or, set, take}
use Rattle.std.specs.List.{list_any}
use Rattle.std.specs.Int.RustNames.{bit_and}
use Rattle.sets.specs.Choice.{pick}
use Rattle.sets.specs.Bounded.{Subset}
use Rattle.sets.specs.Rank.{rank}
use Rattle.sets.specs.Marks.{marked, table}
use Rattle.sets.specs.Numbered.{numbered}
use Rattle.taskset.specs.declared.Rule.{Rule}
use Rattle.taskset.specs.Model.{Lists, rule_at}
use Rattle.assignment.specs.declared.Search.{Search}
use Rattle.assignment.specs.Search.{index}
use Rattle.assignment.specs.Audsley.{feasible, problem}
use Rattle.subsets.specs.Subsets.{subsets}
use Rattle.subsets.specs.declared.Found.{Found}

-- the task at a level of a search, and those at the first n levels, highest first
abbrev pub task_at_level : Search → ℕ → ℕ
task_at_level s level = (get_or s.order level (index 0)).0

abbrev pub order_of : ℕ → Search → List ℕ
order_of n s = table n (task_at_level s)

-- the rules whose higher task stands before the lower one
abbrev pub keeping : List Rule → List ℕ → ℕ → Bool
keeping rules order k = ltb (rank order (rule_at rules k).higher.0) (rank order (rule_at rules k).lower.0)

-- a feasible set of rules of a short list
pub record IsFeasible (l : Lists) (c : ℕ) : Type 0 where
  pub in_bounds : c < subsets
  pub feasible : T (feasible (problem l) (numbered c))

-- and one that has the rules of the set c
pub record Grown (l : Lists) (c d : ℕ) : Type 0 where
  pub is_feasible : IsFeasible l d
  pub has : Subset (length l.rules) (numbered c) (numbered d)

-- ---- the sets that the orders found so far keep, and those that were tried in vain

abbrev pub max_orders : ℕ
max_orders = 64

-- one of them has all rules of this set
unfoldable pub covered : Found → ℕ → Bool
covered f c = list_any (λ kept. eqb (bit_and c kept) c) (take f.orders f.kept)

-- one more, while there is room for it
abbrev pub added : Found → ℕ → Found
added f c = pick (ltb f.orders max_orders) (record { kept = set f.kept f.orders c; orders = f.orders + 1; infeasible = f.infeasible }) f

-- each of them is feasible, and a set that was tried in vain is not
pub record RightlyFound (l : Lists) (f : Found) : Type 0 where
  pub long : max_orders ≤ length f.kept
  pub few : f.orders ≤ max_orders
  pub each : (i : ℕ) → i < f.orders → IsFeasible l (get_or f.kept i 0)
  pub marks : length f.infeasible ≡ subsets
  pub clash : (c : ℕ) → T (marked f.infeasible c) → feasible (problem l) (numbered c) ≡ false
