-- Cores that share no rule, and what they cost together: each wants one of its rules given up. Assumes nothing.
use Rattle.std.specs.Prelude.{Bool, ◌&&◌, not, List, [], ℕ, zero, suc, ◌+◌, ltb, eqb, length, get_or, set, replicate}
use Rattle.sets.specs.Choice.{pick}
use Rattle.sets.specs.Bounded.{all}
use Rattle.sets.specs.Marks.{marked, table}
use Rattle.taskset.specs.declared.Rule.{Rule}
use Rattle.taskset.specs.Refusals.{max_rules}
use Rattle.relaxation.specs.declared.cores.DisjointCores.{DisjointCores}
use Rattle.relaxation.specs.declared.cores.Cores.{Cores}
use Rattle.relaxation.specs.Weights.{least_weight}

-- no core is listed
abbrev pub none_listed : DisjointCores
none_listed = record { numbers = replicate max_rules 0; ncores = 0; least = 0 }

-- the rules of a core get its number
abbrev pub with_number : List ℕ → (ℕ → Bool) → ℕ → List ℕ
with_number numbers core number = table max_rules (λ k. pick (core k) number (get_or numbers k 0))

-- no rule of the core is in one that is listed
abbrev pub fresh_at : DisjointCores → (ℕ → Bool) → ℕ → Bool
fresh_at s core k = not (core k && not (eqb (get_or s.numbers k 0) 0))

module _ (rules : List Rule) where
  -- then it is listed, with the next number
  unfoldable pub listed_with : DisjointCores → (ℕ → Bool) → DisjointCores
  listed_with s core =
      pick (all (length rules) (fresh_at s core))
      (record {
        numbers = with_number s.numbers core (s.ncores + 1);
        ncores = s.ncores + 1;
        least = s.least + least_weight rules (length rules) core;
      })
      s

  -- every rule of the core is kept
  unfoldable pub included : (ℕ → Bool) → (ℕ → Bool) → Bool
  included core kept = all (length rules) (λ k. not (core k && not (kept k)))

  -- of the first n cores those that are kept whole, as far as they share no rule with those before
  unfoldable pub listed_in : List (List Bool) → (ℕ → Bool) → ℕ → DisjointCores
  listed_in cores kept zero = none_listed
  listed_in cores kept (suc n) =
      let s = listed_in cores kept n in
      let core = marked (get_or cores n []) in
      pick (included core kept) (listed_with s core) s

-- ---- the cores that were found

-- so many are remembered
abbrev pub max_remembered : ℕ
max_remembered = 256

abbrev pub core_at : Cores → ℕ → ℕ → Bool
core_at c i = marked (get_or c.sets i [])

unfoldable pub remembered : Cores → List Bool → Cores
remembered c core = pick (ltb c.n max_remembered) (record { sets = set c.sets c.n core; n = c.n + 1 }) c
