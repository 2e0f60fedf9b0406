-- What owning a task set tells: its arrays have their sizes. Assumes nothing.
use mathlib.Core.List.{[], ◌∷◌}
use denote.Laws.{Is}
use denote.Struct.Laws.{val}
use Rattle.taskset.specs.declared.TaskSet.{TaskSet}
use Rattle.taskset.specs.Passing.{Sized}
use Rattle.taskset.specs.contracts.TaskSet.{the_type, the_row}
use Rattle.taskset.proofs.TaskSet.TheLaws.{the_laws}

-- of a parameter s that stands first, `sized s c.well_formed.0`
pub sized : (s : TaskSet) → Is the_row s (val the_type the_laws s ∷ []) → Sized s
sized s is = (is.1.1.0.1.0.1, is.1.1.1.1.0.1.0.1)
