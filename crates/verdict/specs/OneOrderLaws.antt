-- The order that a verdict gives is the canonical one, and the only one. Assumes nothing.
use Rattle.std.specs.Prelude.{Ok, ◌≡◌, eqb, length}
use Rattle.std.proofs.Math.Path.{refl}
use Rattle.std.proofs.Common.{sym, subst, lt→ltb}
use Rattle.std.proofs.Math.Bool.{Bool, true, false}
use Prim.Native.Nat.{ℕ}
use Rattle.sets.specs.Choice.{pick, true→T}
use Rattle.sets.specs.Marks.{first}
use Rattle.taskset.specs.declared.TaskSet.{TaskSet}
use Rattle.taskset.specs.Model.{Lists, Sound}
use Rattle.taskset.specs.Adding.{lists}
use Rattle.taskset.specs.Passing.{Sized}
use Rattle.assignment.specs.Orders.{every_rule}
use Rattle.assignment.specs.Canonical.{CanonicalOrder}
use Rattle.assignment.proofs.CanonicalLaws.{canonical_unique, canonical_other}
use Rattle.assignment.specs.Audsley.{assign, feasible, problem}
use Rattle.assignment.proofs.Preemptive.{feasible_canonical, canonical_exactly}
use Rattle.taskset.specs.declared.refusals.Refusal.TheVariants.{NoTasks, NotMade}
use Rattle.verdict.specs.declared.Finding.TheVariants.{Order}
use Rattle.verdict.specs.declared.Verdict.{Verdict}
use Rattle.verdict.specs.declared.Solved.{Solved}
use Rattle.verdict.specs.Core.{core_of}
use Rattle.verdict.specs.Verdict.{refused, verdict_by, verdict_on, deciding, solving}
use Rattle.verdict.specs.Correct.{order_given}
use Rattle.verdict.specs.OneOrder.{OneOrder}
use Rattle.verdict.specs.Solving.{solving_cases}
use Rattle.verdict.specs.Explained.{order_not_core, order_not_refused, order-handed}

module _ (l : Lists) where
  -- nothing is asked where no order is given
  no_order : (v : Verdict) → (v.answer ≡ Ok Order → ⊥) → OneOrder l v
  no_order v out = record { canonical = λ e. absurd (out e); only = λ e. absurd (out e); greatest = λ e. absurd (out e) }

  module _ (sound : Sound l) where
    by_canonical : (v : Verdict) → (v.answer ≡ Ok Order → CanonicalOrder l every_rule (order_given l v)) → OneOrder l v
    by_canonical v canonical =
        record {
          canonical = canonical;
          only = λ e order c. canonical_unique c (canonical e);
          greatest = λ e. (canonical_exactly l sound every_rule (order_given l v)).0 (canonical e);
        }

    verdict_one : OneOrder l (verdict_on l)
    unfolding verdict_on
    verdict_one = go (feasible (problem l) all) refl
      where
        all : ℕ → Bool
        all = first (length l.rules)

        go : (b : Bool) → feasible (problem l) all ≡ b
            → OneOrder l (verdict_by l b (assign (problem l) all) (core_of (feasible (problem l)) (length l.rules)))
        go true e =
            let yes = true→T (feasible (problem l) all) e in
            by_canonical _
            (λ given. subst (CanonicalOrder l every_rule) (sym (order-handed l sound yes))
            (canonical_other (λ i above. (λ m. m, λ m. m)) (λ k h. (λ on. tt, λ on. lt→ltb k (length l.rules) h))
            (feasible_canonical l sound all yes)))
        go false e = no_order _ (λ core. order_not_core (sym core))

    pub deciding_one : OneOrder l (deciding l)
    unfolding deciding
    deciding_one = go (eqb (length l.tasks) 0)
      where
        go : (b : Bool) → OneOrder l (pick b (refused NoTasks) (verdict_on l))
        go true = no_order _ (order_not_refused NoTasks)
        go false = verdict_one

-- whatever set is solved
pub solving_one : (s : TaskSet) → Sized s → (r : Solved) → r ≡ solving s → OneOrder (lists s) r.verdict
solving_one s size r e =
    subst (λ (q : Solved). OneOrder (lists s) q.verdict) (sym e)
    (solving_cases s size (OneOrder (lists s)) (no_order (lists s) (refused NotMade) (order_not_refused NotMade)) (deciding_one (lists s)))
