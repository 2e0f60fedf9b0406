-- The text of a task set: the line of each task, then that of each rule, in the order of their places. Assumes nothing.
use Rattle.std.specs.Prelude.{List, [], ◌∷◌, ◌++◌, map, ℕ}
use Rattle.lines.specs.Decimal.{tab}
use Rattle.lines.specs.Line.{lines_of}
use Rattle.taskset.specs.Model.{Lists}
use Rattle.taskset.specs.Numbers.{task_numbers, rule_numbers}
use Rattle.text.specs.Text.{letter_t, letter_r}

-- the heads of a task's line and of a rule's: a letter and its tab
abbrev pub task_head : List ℕ
task_head = letter_t ∷ tab ∷ []

abbrev pub rule_head : List ℕ
rule_head = letter_r ∷ tab ∷ []

unfoldable pub text_of : Lists → List ℕ
text_of l = lines_of task_head (map task_numbers l.tasks) ++ lines_of rule_head (map rule_numbers l.rules)
