-- `response::blocking::Resources::take`: the entries so far are those after the task, and the others as they were.
use Rattle.std.proofs.Common.{◌≡◌, ℕ, ◌<◌, ◌≤◌, get_or}
use Rattle.taskset.specs.Model.{task_at}
use Rattle.response.specs.Resources.{no_usage}
use Rattle.response.proofs.ResourcesLaws.{usage_after}
use Rattle.response.proofs.blocking.Resources.take.Given as goal

abbrev pub invariant-loop-k : goal.invariant-loop-k
invariant-loop-k l = let before = l.fn.self.usage in record {
  done : (q : ℕ) → q < l.k → get_or l.kept-items q no_usage ≡ usage_after (task_at l.tasks l.fn.task.0) q (get_or before q no_usage);
  rest : (q : ℕ) → l.k ≤ q → q < l.k-end → get_or l.kept-items q no_usage ≡ get_or before q no_usage;
}
