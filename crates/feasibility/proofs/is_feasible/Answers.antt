-- Every level is filled exactly when there is an order. Assumes nothing.
use Rattle.taskset.specs.Views.{lists_of}
use Rattle.feasibility.proofs.TryingLaws.{none_free}
use Rattle.feasibility.proofs.is_feasible.Goals as goal

pub returns : goal.returns
returns c = none_free (lists_of c.args.system) c.args.system.sound _ _ c.trial.ensures.decides
