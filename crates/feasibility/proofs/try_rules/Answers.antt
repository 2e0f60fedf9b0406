-- 14, or what the trial of the set's lists finds. Assumes nothing.
use Rattle.std.proofs.Common.{sym, Ok}
use Rattle.sets.specs.Marks.{marked}
use Rattle.taskset.specs.Views.{lists_of}
use Rattle.taskset.specs.ChangingLaws.{on_made_14}
use Rattle.assignment.specs.Audsley.{feasible, problem}
use Rattle.feasibility.specs.Trying.{trying}
use Rattle.feasibility.proofs.TryingLaws.{trying_made, trying_decides}
use Rattle.feasibility.proofs.try_rules.Goals as goal

pub returns-in_default-clause-value : goal.returns-in_default-clause-value
unfolding trying
returns-in_default-clause-value c =
    on_made_14 c.args.set.now (λ l. Ok (feasible (problem l) (marked c.args.active.now))) (sym c.in_default.ensures.made)

pub returns-in_default-clause-says : goal.returns-in_default-clause-says
returns-in_default-clause-says c = trying_decides _ _ _ (returns-in_default-clause-value c)

pub returns-clause-value : goal.returns-clause-value
returns-clause-value c =
    let e = c.in-Some.ensures in
    trying_made c.args.set.now c.args.active.now (sym e.made) (lists_of c.in-Some.system) e.lists _ c.is_feasible.ensures

pub returns-clause-says : goal.returns-clause-says
returns-clause-says c = trying_decides _ _ _ (returns-clause-value c)
