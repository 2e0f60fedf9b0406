-- The cores that the test finds are those that a sceptic finds who writes out every order. Assumes nothing.
use Rattle.std.specs.Prelude.{Bool, ℕ, ◌<◌, T, length}
use Rattle.std.proofs.Common.{lt→ltb, ltb→lt}
use Rattle.sets.specs.Choice.{and_intro, and_left, and_right}
use Rattle.sets.specs.Bounded.{Subset, without, without_still, without_other}
use Rattle.sets.specs.Marks.{first}
use Rattle.taskset.specs.Model.{Lists, Sound}
use Rattle.assignment.specs.Orders.{SomeOrder, UnschedulabilityCore}
use Rattle.assignment.specs.Audsley.{Problem, feasible, problem}
use Rattle.assignment.specs.Cores.{IsCore, rules_in}
use Rattle.assignment.proofs.Preemptive.{feasible-order, less-feasible}

-- ---- those of a set that are rules

module _ (p : Problem) (A : ℕ → Bool) (k : ℕ) where
  pub rules_in_of : k < length p.rules → T (A k) → T (rules_in p A k)
  rules_in_of h t = and_intro (first (length p.rules) k) (A k) (lt→ltb k (length p.rules) h) t

  pub rules_in_below : T (rules_in p A k) → k < length p.rules
  rules_in_below t = ltb→lt k (length p.rules) (and_left (first (length p.rules) k) (A k) t)

  pub rules_in_was : T (rules_in p A k) → T (A k)
  rules_in_was t = and_right (first (length p.rules) k) (A k) t

-- ---- the test and the sceptic's orders

module _ (l : Lists) (sound : Sound l) where
  pub order_from : (less more : ℕ → Bool) → Subset (length l.rules) less more → T (feasible (problem l) more) → SomeOrder l less
  order_from less more fewer t = (feasible-order l sound less).0 (less-feasible l sound less more fewer t)

  test_of : (less more : ℕ → Bool) → Subset (length l.rules) less more → SomeOrder l more → T (feasible (problem l) less)
  test_of less more fewer o = less-feasible l sound less more fewer ((feasible-order l sound more).1 o)

  pub core_found : (A : ℕ → Bool) → IsCore (problem l) A → UnschedulabilityCore l A
  core_found A core =
      record {
        clash = λ o. core.clash ((feasible-order l sound A).1 o);
        needed = λ k h t. (feasible-order l sound (without A k)).0 (core.needed k t);
      }

  pub found_core : (A : ℕ → Bool) → UnschedulabilityCore l A → IsCore (problem l) (rules_in (problem l) A)
  found_core A core =
      record {
        clash = λ t. core.clash (order_from A (rules_in (problem l) A) (rules_in_of (problem l) A) t);
        needed = λ k t.
            test_of (without (rules_in (problem l) A) k) (without A k)
            (λ j h s. let w = without_still (rules_in (problem l) A) k j s in without_other A k j w.1 (rules_in_was (problem l) A j w.0))
            (core.needed k (rules_in_below (problem l) A k t) (rules_in_was (problem l) A k t));
        inside = rules_in_below (problem l) A;
      }
