-- How rules are put back while the budget lasts. Assumes nothing.
use Rattle.std.specs.Prelude.{false, true, ℕ, zero, suc, ◌+◌, ltb, set, replicate}
use Rattle.sets.specs.Choice.{pick}
use Rattle.sets.specs.Marks.{marked}
use Rattle.taskset.specs.Refusals.{max_rules}
use Rattle.assignment.specs.Audsley.{Problem, feasible}
use Rattle.relaxation.specs.declared.restore.Restoring.{Restoring}
use Rattle.relaxation.specs.Turns.{heavy_first}

-- the greatest budget
abbrev pub max_budget : ℕ
max_budget = 10_000

module _ (p : Problem) (budget : ℕ) where
  -- no rule is put back yet, and the set of none was solved
  abbrev pub none_restored : Restoring
  none_restored = record { kept = replicate max_rules false; count = 1 }

  -- one set more is solved, if the budget lasts: rule k is put back where that leaves an order
  unfoldable pub put_back : Restoring → ℕ → Restoring
  put_back r k =
      let more = set r.kept k true in
      pick (ltb r.count budget) (record { kept = pick (feasible p (marked more)) more r.kept; count = r.count + 1 }) r

  -- after the first n turns
  unfoldable pub restored : ℕ → Restoring
  restored zero = none_restored
  restored (suc n) = put_back (restored n) (heavy_first p.rules n)
