-- A ready task that is known to pass may take the level. Assumes nothing.
use Rattle.std.proofs.Common.{rules}
use Rattle.assignment.proofs.Preemptive.{bare_known}
use Rattle.assignment.proofs.level.OpenLevel.choose_any.Goals as goal

pub returns-then-self-j : goal.returns-then-self-j
returns-then-self-j c = search (rules, bare_known)
