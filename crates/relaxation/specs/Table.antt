-- Document 02, (f), where there are few rules: every set of them is solved, each by its number. Assumes nothing.
use Rattle.std.specs.Prelude.{Bool, true, ◌&&◌, List, ◌∷◌, ℕ, zero, suc, ◌-◌, ◌^◌, ltb, length}
use Rattle.sets.specs.Choice.{pick}
use Rattle.sets.specs.Marks.{table}
use Rattle.sets.specs.Numbered.{numbered}
use Rattle.assignment.specs.Audsley.{Problem, feasible}
use Rattle.subsets.specs.Subsets.{core_set}
use Rattle.relaxation.specs.declared.cores.DisjointCores.{DisjointCores}
use Rattle.relaxation.specs.Weights.{cost_of}
use Rattle.relaxation.specs.Disjoint.{none_listed, listed_with}

-- every set but that of no rules, which has an order, is solved once
unfoldable pub answers : Problem → List Bool
answers p = true ∷ table (2 ^ length p.rules - 1) (λ c. feasible p (numbered (suc c)))

abbrev pub cost_at : Problem → ℕ → ℕ
cost_at p c = cost_of p.rules (numbered c)

-- with what was found of each set
module _ (p : Problem) (found : ℕ → Bool) where
  -- of the first n sets that have an order, the first one that it costs least to keep alone
  unfoldable pub cheapest : ℕ → ℕ
  cheapest zero = 0
  cheapest (suc n) = let best = cheapest n in pick (found n && ltb (cost_at p n) (cost_at p best)) n best

  -- of the first n sets the cores, one after another, that share no rule with those before
  unfoldable pub cores_listed : ℕ → DisjointCores
  cores_listed zero = none_listed
  cores_listed (suc n) = let s = cores_listed n in pick (core_set found n) (listed_with p.rules s (numbered n)) s
