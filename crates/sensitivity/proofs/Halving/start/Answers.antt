-- The tasks are those of the set. Assumes nothing.
use Rattle.taskset.specs.Views.{lists_of}
use Rattle.sensitivity.proofs.HalvingLaws.{started}
use Rattle.sensitivity.proofs.Halving.start.Goals as goal

pub returns-clause-halves : goal.returns-clause-halves
returns-clause-halves c =
    started (lists_of c.args.system) c.args.system.sound _ c.requires _ _ c.copy_from_slice.ensures.after _ c.least_execution.ensures _ c.fresh.ensures
