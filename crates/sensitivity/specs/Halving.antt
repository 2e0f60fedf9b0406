-- What halving has found out, for contracts below the call to cite. Assumes nothing.
use Rattle.std.specs.Prelude.{◌≡◌, Bool, ℕ, ◌+◌, ◌≤◌, ◌<◌, T, length, take}
use Rattle.sets.specs.Marks.{first}
use Rattle.taskset.specs.Model.{Lists}
use Rattle.assignment.specs.Audsley.{problem}
use Rattle.assignment.specs.Search.{Searched}
use Rattle.sensitivity.specs.declared.Halving.{Halving}
use Rattle.sensitivity.specs.Longest.{with_execution, least_at, period_at, accepts}

-- of the numbers from floor to top, low passes, or is the one before them; high doesn't, or is the one after them
pub record Brackets (floor top : ℕ) (passes : ℕ → Bool) (low high : ℕ) : Type 0 where
  pub from : floor ≤ low + 1
  pub apart : low < high
  pub to : high ≤ top + 1
  pub low_passes : floor ≤ low → T (passes low)
  pub high_fails : high ≤ top → T (passes high) → ⊥

-- how often the range is halved at most
abbrev pub rounds : ℕ
rounds = 20

-- what is known of the execution times of task i
pub record Halves (l : Lists) (i : ℕ) (h : Halving) : Type 0 where
  pub brackets : Brackets (least_at l i) (period_at l i) (accepts l i) h.accepted h.refused
  -- the tasks have one of them in the row
  pub figure : ℕ
  pub tasks : take (length l.tasks) h.tasks ≡ (with_execution l i figure).tasks
  -- levels that may be filled so with every execution time below the refused one
  pub searched : (c : ℕ) → c < h.refused → Searched (problem (with_execution l i c)) (first (length l.rules)) h.stuck
