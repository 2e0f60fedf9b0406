-- The documents' numbers of the refusals. Assumes nothing.
use Rattle.std.specs.Prelude.{ℕ}
use Rattle.taskset.specs.declared.refusals.Refusal.{Refusal}
use Rattle.taskset.specs.declared.refusals.Refusal.TheVariants.{Period, Execution, Deadline, Jitter, Section, SameTask, BadLine, LongText, ShortBuffer, FullTasks, NoSuchTask, FullRules, NoTasks, NotMade, Weight, Budget, DifferentPeriods, BothWays, ManyRules}

abbrev pub number : Refusal → ℕ
number Period = 1
number Execution = 2
number Deadline = 3
number Jitter = 4
number Section = 5
number SameTask = 6
number BadLine = 7
number LongText = 8
number ShortBuffer = 9
number FullTasks = 10
number NoSuchTask = 11
number FullRules = 12
number NoTasks = 13
number NotMade = 14
number Weight = 15
number Budget = 16
number DifferentPeriods = 17
number BothWays = 18
number ManyRules = 24
