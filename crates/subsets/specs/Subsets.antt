-- The sets of rules of a short list, each by its number, that can be had together. Assumes nothing.
use Rattle.std.specs.Prelude.{◌≡◌, Bool, ◌&&◌, not, List, ℕ, ◌-◌, ◌^◌, ◌<◌, length}
use Rattle.sets.specs.Bounded.{any}
use Rattle.sets.specs.Numbered.{numbered}
use Rattle.sets.specs.Marks.{marked}
use Rattle.taskset.specs.Model.{Lists}
use Rattle.assignment.specs.Audsley.{Problem, feasible, problem}

abbrev pub short : ℕ
short = 12

abbrev pub subsets : ℕ
subsets = 2 ^ short

-- some order keeps the rules of the set with this number and meets every deadline
abbrev pub feasible_set : Problem → ℕ → Bool
feasible_set p c = feasible p (numbered c)

-- one of the sets with one rule fewer is not feasible
abbrev pub fails_without : (ℕ → Bool) → ℕ → ℕ → Bool
fails_without found c k = numbered c k && not (found (c - 2 ^ k))

unfoldable pub ruled_out : (ℕ → Bool) → ℕ → Bool
ruled_out found c = any short (fails_without found c)

-- a core: it is not feasible, and without any one of its rules it is
abbrev pub core_set : (ℕ → Bool) → ℕ → Bool
core_set found c = not (found c) && not (ruled_out found c)

-- the set with this number is one
abbrev pub core_number : Problem → ℕ → Bool
core_number p = core_set (feasible_set p)

-- what was found of each set
abbrev pub FeasibleSubsets : Lists → List Bool → Type 0
FeasibleSubsets l found = (c : ℕ) → c < 2 ^ length l.rules → marked found c ≡ feasible_set (problem l) c
