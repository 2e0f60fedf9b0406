-- The numbers of a call, the calls whose numbers the code's types hold, and the calls that the code makes of such numbers.
-- Assumes nothing.
use Rattle.std.specs.Prelude.{◌≡◌, List, [], ◌∷◌, ℕ, ◌^◌, ◌<◌, length}
use Rattle.taskset.specs.declared.Call.{Call}
use Rattle.taskset.specs.declared.Call.TheVariants.{AddTask, AddRule}
use Rattle.taskset.specs.Refusals.{resources}
use Rattle.taskset.specs.Numbers.{task_size, rule_size, task_of, rule_of, task_numbers, rule_numbers}

abbrev pub call_numbers : Call → List ℕ
call_numbers (AddTask t) = task_numbers t
call_numbers (AddRule r) = rule_numbers r

-- a section for each resource
abbrev pub Whole : Call → Type 0
Whole (AddTask t) = length t.sections ≡ resources
Whole (AddRule r) = Unit {0}

abbrev pub Words : List ℕ → Type 0
Words [] = Unit {0}
Words (w ∷ ws) = (w < 2 ^ 64) × Words ws

abbrev pub Asked : List Call → Type 0
Asked [] = Unit {0}
Asked (c ∷ cs) = Words (call_numbers c) × Whole c × Asked cs

-- an array of numbers gives it, by `Task::from` or `Rule::from`
abbrev pub FromNumbers : Call → Type 0
FromNumbers (AddTask t) = (ns : List ℕ) × Words ns × (length ns ≡ task_size) × (task_of ns ≡ t)
FromNumbers (AddRule r) = (ns : List ℕ) × Words ns × (length ns ≡ rule_size) × (rule_of ns ≡ r)

abbrev pub AllFromNumbers : List Call → Type 0
AllFromNumbers [] = Unit {0}
AllFromNumbers (c ∷ cs) = FromNumbers c × AllFromNumbers cs
