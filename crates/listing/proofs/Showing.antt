-- Laws of showing a verdict, and of a set's outcome. Assumes nothing.
use Rattle.std.specs.Prelude.{Ok, Err, ◌≡◌, true, false, List, ◌⊎◌, ℕ, ◌≤◌, length}
use Rattle.std.proofs.Common.{sym, ap, ap₂, ◌∙◌, inl, inr, arith, le-leb}
use Rattle.sets.specs.Onto.{onto}
use Rattle.taskset.specs.declared.refusals.Refusal.TheVariants.{NotMade}
use Rattle.taskset.specs.declared.TaskSet.{TaskSet}
use Rattle.taskset.specs.Model.{Lists}
use Rattle.taskset.specs.Adding.{is_made, lists}
use Rattle.taskset.specs.Outcome.{shown_as, buffer_after}
use Rattle.verdict.specs.declared.Finding.TheVariants.{Order, Core}
use Rattle.verdict.specs.declared.Solved.{Solved}
use Rattle.verdict.specs.declared.Verdict.{Verdict}
use Rattle.verdict.specs.Verdict.{deciding, solving}
use Rattle.verdict.specs.Solving.{solving_14, solving_made}
use Rattle.listing.specs.Listing.{listing, outcome}
use Rattle.listing.specs.Listing.{fitted}

-- what showing answers and leaves in a buffer that has room, once the bytes stand in its front
pub shows_whole : (bytes was is : List ℕ) (n : ℕ) → n ≡ length bytes → n ≤ length was → is ≡ onto bytes was
    → let o = fitted (length was) (Ok bytes) in (Ok n ≡ shown_as o) × (is ≡ buffer_after o was)
shows_whole bytes was is n e h f =
    let fits = le-leb (length bytes) (length was) (omega arith) in
    (rw fits (ap (λ (k : ℕ). Ok k) e), rw fits f)

-- ---- a verdict

pub outcome_shown : (l : Lists) (v : Verdict) → (v.answer ≡ Ok Order) ⊎ (v.answer ≡ Ok Core) → outcome l v ≡ Ok (listing l v)
outcome_shown l v (inl e) = rw e
outcome_shown l v (inr e) = rw e

-- ---- a set

-- where calls make it, its verdict is that on its lists
pub solving_verdict : (s : TaskSet) → is_made s ≡ true → (solving s).verdict ≡ deciding (lists s)
solving_verdict s made = ap (λ (r : Solved). r.verdict) (sym (solving_made s made))

-- so its outcome is that of its lists' verdict; and 14 where none do
pub outcome_made : (s : TaskSet) (l : Lists) (v : Verdict) → true ≡ is_made s → l ≡ lists s → v ≡ deciding l
    → outcome (lists s) (solving s).verdict ≡ outcome l v
outcome_made s l v made e f = ap₂ outcome (sym e) (solving_verdict s (sym made) ∙ ap deciding (sym e) ∙ sym f)

pub outcome_unmade : (s : TaskSet) → false ≡ is_made s → outcome (lists s) (solving s).verdict ≡ Err NotMade
outcome_unmade s e = ap (λ (r : Solved). outcome (lists s) r.verdict) (sym (solving_14 s (sym e)))
