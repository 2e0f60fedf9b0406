-- Rows and rules as the numbers of their text lines: C, T, D, J and the sections' lengths; u, l and the weight. Assumes nothing.
use Rattle.std.specs.Prelude.{List, [], ◌∷◌, ℕ, ◌+◌, get_or}
use Rattle.sets.specs.Marks.{table}
use Rattle.taskset.specs.declared.Task.{Task}
use Rattle.taskset.specs.declared.Rule.{Rule}
use Rattle.taskset.specs.Refusals.{resources}

-- how many numbers they have: a row has four before its sections
abbrev pub times : ℕ
times = 4

abbrev pub task_size : ℕ
task_size = times + resources

abbrev pub rule_size : ℕ
rule_size = 3

abbrev pub task_of : List ℕ → Task
task_of ns =
    record {
      execution = get_or ns 0 0;
      period = get_or ns 1 0;
      deadline = get_or ns 2 0;
      jitter = get_or ns 3 0;
      sections = table resources (λ k. get_or ns (times + k) 0);
    }

abbrev pub rule_of : List ℕ → Rule
rule_of ns = record { higher = record { 0 = get_or ns 0 0 }; lower = record { 0 = get_or ns 1 0 }; weight = get_or ns 2 0 }

-- and back again
abbrev pub task_numbers : Task → List ℕ
task_numbers t = t.execution ∷ t.period ∷ t.deadline ∷ t.jitter ∷ t.sections

abbrev pub rule_numbers : Rule → List ℕ
rule_numbers r = r.higher.0 ∷ r.lower.0 ∷ r.weight ∷ []
