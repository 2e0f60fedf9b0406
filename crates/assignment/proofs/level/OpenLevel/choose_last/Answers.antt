-- The task that stands furthest down of those left passed there with all the others left above it. Assumes nothing.
use Rattle.std.proofs.Common.{rules}
use Rattle.assignment.proofs.Preemptive.{bare_last, bare_any}
use Rattle.assignment.proofs.level.OpenLevel.choose_last.Goals as goal

pub returns-then-self-task : goal.returns-then-self-task
returns-then-self-task c = search (rules, bare_last, bare_any)
