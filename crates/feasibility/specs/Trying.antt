-- Document 02, (d): how a trial answers, for any set and any marks of its rules. The marked rules are active, in the document's words
-- in play. Assumes nothing.
use Rattle.std.specs.Prelude.{Result, Ok, Bool, List}
use Rattle.sets.specs.Marks.{marked}
use Rattle.taskset.specs.declared.TaskSet.{TaskSet}
use Rattle.taskset.specs.declared.refusals.Refusal.{Refusal}
use Rattle.taskset.specs.Adding.{on_made}
use Rattle.assignment.specs.Audsley.{feasible, problem}

-- 14, then whether every task gets a level with the marked rules active
unfoldable pub trying : TaskSet → List Bool → Result Bool Refusal
trying s active = on_made s (λ l. Ok (feasible (problem l) (marked active)))
