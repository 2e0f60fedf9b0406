-- The documents number no refusal 0. Assumes nothing.
use Rattle.std.specs.Prelude.{◌≤◌}
use Rattle.std.proofs.Common.{arith}
use Rattle.taskset.specs.declared.refusals.Refusal.{Refusal}
use Rattle.taskset.specs.declared.refusals.Refusal.TheVariants.{Period, Execution, Deadline, Jitter, Section, SameTask, BadLine, LongText, ShortBuffer, FullTasks, NoSuchTask, FullRules, NoTasks, NotMade, Weight, Budget, DifferentPeriods, BothWays, ManyRules}
use Rattle.taskset.specs.Numbering.{number}

pub number_some : (r : Refusal) → 1 ≤ number r
number_some Period = omega arith
number_some Execution = omega arith
number_some Deadline = omega arith
number_some Jitter = omega arith
number_some Section = omega arith
number_some SameTask = omega arith
number_some BadLine = omega arith
number_some LongText = omega arith
number_some ShortBuffer = omega arith
number_some FullTasks = omega arith
number_some NoSuchTask = omega arith
number_some FullRules = omega arith
number_some NoTasks = omega arith
number_some NotMade = omega arith
number_some Weight = omega arith
number_some Budget = omega arith
number_some DifferentPeriods = omega arith
number_some BothWays = omega arith
number_some ManyRules = omega arith
