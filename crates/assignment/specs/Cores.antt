-- An unschedulability core, by the test of whether a set of rules is feasible. Assumes nothing.
use Rattle.std.specs.Prelude.{Bool, ◌&&◌, ℕ, ◌<◌, T, length}
use Rattle.sets.specs.Bounded.{without}
use Rattle.sets.specs.Marks.{first}
use Rattle.assignment.specs.Audsley.{Problem, feasible}

-- rules of the problem that are infeasible, and feasible without any one of them
pub record IsCore (p : Problem) (A : ℕ → Bool) : Type 0 where
  pub clash : T (feasible p A) → ⊥
  pub needed : (k : ℕ) → T (A k) → T (feasible p (without A k))
  pub inside : (k : ℕ) → T (A k) → k < length p.rules

-- those of a set that are rules of the problem
abbrev pub rules_in : Problem → (ℕ → Bool) → ℕ → Bool
rules_in p A k = first (length p.rules) k && A k
