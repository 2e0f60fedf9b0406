-- What document 02 asks of a listing in (b), late, and by how much: which late lines stand in it. Assumes nothing.
use Rattle.std.specs.Prelude.{◌≡◌, List, [], Ok, ℕ, ◌≤◌, T, length}
use Rattle.sets.specs.Collected.{collected}
use Rattle.taskset.specs.Model.{Lists}
use Rattle.assignment.specs.LateTasks.{LateTasks, unassignable, late_response}
use Rattle.verdict.specs.declared.Verdict.{Verdict}
use Rattle.verdict.specs.declared.Finding.TheVariants.{Core}
use Rattle.verdict.specs.Correct.{core_given}
use Rattle.listing.specs.Listing.{late_line}

-- a core of no rules
abbrev pub EmptyCore : Verdict → Type 0
EmptyCore v = (v.answer ≡ Ok Core) × ((k : ℕ) → T (core_given v k) → ⊥)

pub record LateLines (l : Lists) (v : Verdict) (lines : List (List ℕ)) : Type 0 where
  -- an empty-core listing gains a line, place and response, for each task left without a level, in rising place
  pub gained : EmptyCore v → lines ≡ collected (unassignable l) (late_line l.tasks (unassignable l)) (length l.tasks)
  -- no other listing changes
  pub unchanged : (EmptyCore v → ⊥) → lines ≡ []
  -- there is at least one line
  pub some : EmptyCore v → 1 ≤ length lines
  -- who is left, and what is reported of each
  pub who : LateTasks l (unassignable l) (late_response l.tasks (unassignable l))
