-- Document 02, (f): the weights of rules, and arrays of marks for sets of rules. A set of rules is a test of their places.
-- Assumes nothing.
use Rattle.std.specs.Prelude.{Bool, false, ◌&&◌, List, ℕ, zero, suc, min, ltb, length}
use Rattle.sets.specs.Choice.{pick}
use Rattle.sets.specs.Bounded.{others}
use Rattle.sets.specs.Pad.{pad}
use Rattle.sets.specs.Sum.{sum}
use Rattle.sets.specs.Marks.{table}
use Rattle.sets.specs.Maximum.{maximum}
use Rattle.taskset.specs.declared.Rule.{Rule}
use Rattle.taskset.specs.Refusals.{max_rules, max_weight}
use Rattle.taskset.specs.Model.{rule_at}

abbrev pub weight_at : List Rule → ℕ → ℕ
weight_at rules k = (rule_at rules k).weight

-- the weight of a set of rules
abbrev pub weight_of : List Rule → (ℕ → Bool) → ℕ
weight_of rules A = sum (length rules) A (weight_at rules)

-- and of the rules that are not in it: what it costs to keep these alone
abbrev pub cost_of : List Rule → (ℕ → Bool) → ℕ
cost_of rules kept = weight_of rules (others kept)

-- no set of rules weighs more
abbrev pub cost_most : ℕ
cost_most = 128_000

-- the least weight of those of the first n rules that are in a set, the most there is where none is
unfoldable pub least_weight : List Rule → ℕ → (ℕ → Bool) → ℕ
least_weight rules zero A = max_weight
least_weight rules (suc n) A = min (least_weight rules n A) (pick (A n) (weight_at rules n) max_weight)

-- the heaviest of them, the first one of equals
unfoldable pub heaviest : List Rule → ℕ → (ℕ → Bool) → ℕ
heaviest rules zero A = 0
heaviest rules (suc n) A = pick (A n && ltb (maximum n A (weight_at rules)) (weight_at rules n)) n (heaviest rules n A)

-- the array with the marks of a set of m rules
abbrev pub marks_of : ℕ → (ℕ → Bool) → List Bool
marks_of m A = pad max_rules false (table m A)
