-- Demand 3, one claim about the whole list of calls: where the reference model has a task, the verdict is correct about the lists
-- that it heard. `demand_3` in `Theorem` proves it for every list of calls, and the contract of `replay` has it for the code.
-- Assumes nothing.
use Rattle.std.specs.Prelude.{List, ◌≤◌, length}
use Rattle.taskset.specs.declared.Call.{Call}
use Rattle.taskset.specs.Model.{no_lists, heard}
use Rattle.verdict.specs.declared.Verdict.{Verdict}
use Rattle.verdict.specs.Correct.{Correct}

unfoldable pub Demand3 : List Call → Verdict → Type 0
Demand3 calls v = 1 ≤ length (heard no_lists calls).tasks → Correct (heard no_lists calls) v
