-- A set that passes the check has counts within their limits, and adding has taken every entry of its lists.
use Rattle.std.proofs.Common.{sym, ◌∙◌, rules}
use Rattle.taskset.specs.Passing.{Passed, passed, passed_few}
use Rattle.taskset.proofs.TaskSet.checked.Goals as goal
use Rattle.taskset.proofs.TaskSet.checked.Goals.{Else-not-is_made}

pass : (c : Else-not-is_made) → Passed c.args.self.now
pass c = passed c.args.self.now (search rules, search rules) (sym c.is_made.ensures.value ∙ c.if-not-is_made.false)

pub system-requires-clause-counts : goal.system-requires-clause-counts
system-requires-clause-counts c = passed_few _ (pass c)

pub system-requires-clause-sound : goal.system-requires-clause-sound
system-requires-clause-sound c = (pass c).sound
