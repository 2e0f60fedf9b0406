-- A candidate's tasks and those above it, and the demand of a load, as the contracts of their methods cite them. Assumes nothing.
use Rattle.std.specs.Prelude.{Bool, List, ℕ}
use Rattle.sets.specs.Marks.{marked}
use Rattle.taskset.specs.declared.Task.{Task}
use Rattle.response.specs.declared.candidate.Candidate.{Candidate}
use Rattle.response.specs.declared.load.Load.{Load}
use Rattle.response.specs.Load.{load_demand}

abbrev pub tasks_of : Candidate → List Task
tasks_of c = c.tasks.list.now

abbrev pub above_of : Candidate → ℕ → Bool
above_of c = marked c.above

abbrev pub demand_in : Load → ℕ → ℕ
demand_in l = load_demand l.base l.tasks.list.now l.kept.now
