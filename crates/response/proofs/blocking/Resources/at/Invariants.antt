-- `response::blocking::Resources::at`: the entries so far are filled.
use Rattle.std.proofs.Common.{◌≡◌, ℕ, ◌<◌, get_or}
use Rattle.sets.specs.Marks.{marked}
use Rattle.response.specs.Resources.{usage_of, no_usage}
use Rattle.response.proofs.blocking.Resources.at.Given as goal

abbrev pub invariant-loop-k : goal.invariant-loop-k
invariant-loop-k l = (q : ℕ) → q < l.k → get_or l.kept-items q no_usage ≡ usage_of l.tasks (marked l.left) q
