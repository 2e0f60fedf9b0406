-- 14, 11, or what halving finds. Assumes nothing.
use Rattle.std.proofs.Common.{sym}
use Rattle.taskset.specs.ChangingLaws.{on_made_14}
use Rattle.sensitivity.specs.Longest.{longest_on, longest_of}
use Rattle.sensitivity.proofs.SensitivityLaws.{answer_11, answer_found, answer_says}
use Rattle.sensitivity.proofs.longest_execution.Goals as goal

pub returns-in_default-clause-value : goal.returns-in_default-clause-value
unfolding longest_of
returns-in_default-clause-value c = on_made_14 c.args.set.now (λ l. longest_on l c.args.task.0) (sym c.in_default.ensures.made)

pub returns-in_default-clause-says : goal.returns-in_default-clause-says
returns-in_default-clause-says c = answer_says _ _ _ (returns-in_default-clause-value c)

pub returns-then-system-task-clause-value : goal.returns-then-system-task-clause-value
returns-then-system-task-clause-value c =
    let e = c.in-Some.ensures in answer_11 c.args.set.now c.args.task.0 (sym e.made) _ e.lists c.if-system-task.true

pub returns-then-system-task-clause-says : goal.returns-then-system-task-clause-says
returns-then-system-task-clause-says c = answer_says _ _ _ (returns-then-system-task-clause-value c)

pub returns-clause-value : goal.returns-clause-value
returns-clause-value c =
    let e = c.in-Some.ensures in
    answer_found c.args.set.now c.args.task.0 (sym e.made) _ e.lists c.if-system-task.false _ c.longest.ensures

pub returns-clause-says : goal.returns-clause-says
returns-clause-says c = answer_says _ _ _ (returns-clause-value c)
