-- How a core is cut out of a set of rules, over any test of whether a set is feasible: rules are tried one after another, and one is
-- taken out for good when what is left is still infeasible. Document 01's core is cut out of all rules, which are tried from place 0
-- upward. A set of rules goes by places, so equal rules are told apart. Assumes nothing.
use Rattle.std.specs.Prelude.{Bool, ℕ, zero, suc}
use Rattle.sets.specs.Choice.{pick}
use Rattle.sets.specs.Bounded.{without}
use Rattle.sets.specs.Marks.{first}

-- rule k tried: out for good where the other active ones are infeasible
unfoldable pub tried : ((ℕ → Bool) → Bool) → (ℕ → Bool) → ℕ → ℕ → Bool
tried feasible active k = let less = without active k in pick (feasible less) active less

-- what is left of a set of rules after the first n turns, in each of which one rule is tried
unfoldable pub cut_of : ((ℕ → Bool) → Bool) → (ℕ → ℕ) → (ℕ → Bool) → ℕ → ℕ → Bool
cut_of feasible turn start zero = start
cut_of feasible turn start (suc n) = tried feasible (cut_of feasible turn start n) (turn n)

-- each by its place
abbrev pub by_place : ℕ → ℕ
by_place k = k

-- what is left of all m rules, when each was tried so
abbrev pub core_of : ((ℕ → Bool) → Bool) → ℕ → ℕ → Bool
core_of feasible m = cut_of feasible by_place (first m) m
