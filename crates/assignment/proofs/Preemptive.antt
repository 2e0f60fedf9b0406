-- The preemptive test of document 01 as an instance: a task passes when its response lies within its deadline. Assumes nothing.
use Rattle.std.specs.Prelude.{Option, Some, None, is_some}
use Rattle.std.specs.Prelude.{◌≡◌, refl, Bool, true, ◌&&◌, List, ◌↔◌, ℕ, ◌-◌, ◌≤◌, ◌<◌, T, length, get_or}
use Rattle.std.proofs.Common.{sym, subst, lt→ltb, ⊎_elim, arith, eqb→eq}
use Rattle.sets.specs.Bounded.{Subset}
use Rattle.sets.specs.Marks.{first, marked}
use Rattle.taskset.specs.declared.Task.{Task}
use Rattle.taskset.specs.declared.Rule.{Rule}
use Rattle.taskset.specs.Model.{Lists, task_at, SoundTasks, Sound}
use Rattle.response.specs.Equation.{demand, SaysResponse}
use Rattle.response.specs.Agreement.{response_says}
use Rattle.response.proofs.Demand.{fewer_above, Shorter, shorter_response}
use Rattle.assignment.specs.declared.Search.{Search}
use Rattle.assignment.specs.Orders.{Valid, MeetsDeadline, ValidOrder, SomeOrder, every_rule, no_rule}
use Rattle.assignment.specs.Canonical.{CanonicalOrder, GreatestOrder}
use Rattle.assignment.specs.Audsley.{Passes, assign, feasible, response_at, problem, bare}
use Rattle.assignment.specs.Levels.{valid_other, valid_each, each_valid}
use Rattle.assignment.specs.Decision.{Lawful, SomeValid, feasible_exactly, valid_fewer, Eases, feasible_fewer}
use Rattle.assignment.proofs.CanonicalLaws.{greater_once, canonical_greatest, canonical_other, assign_canonical}
use Rattle.assignment.specs.Search.{index, candidate, within, Searched, Ended, Known}
use Rattle.assignment.specs.Hints.{known_any, NoneFrom, none_next, last_task, last_any}
use Rattle.assignment.specs.Filling.{chosen_any, ended_decides}

-- ---- the test says what the words say

pub meets_exactly : (tasks : List Task) (i : ℕ) (above : ℕ → Bool)
    → T (is_some (response_at tasks i above)) ↔ MeetsDeadline tasks i above
meets_exactly tasks i above =
    go (response_at tasks i above) (response_says (demand tasks i above) (task_at tasks i).jitter (task_at tasks i).deadline)
  where
    go : (r : Option ℕ) → SaysResponse tasks i above (task_at tasks i).deadline r
        → T (is_some r) ↔ MeetsDeadline tasks i above
    go (Some r) s = (λ t. (s.0, s.1, omega (arith, s.2, s.3)), λ m. tt)
    go None s = (λ t. absurd t, λ m. omega (arith, s m.0 m.1.low m.1.met, m.2))

-- so an order is valid by the one exactly when it is by the other
pub valid_exactly : (l : Lists) (active : ℕ → Bool) (order : List ℕ)
    → Valid (length l.tasks) l.rules (Passes (problem l)) active order ↔ ValidOrder l active order
valid_exactly l active order = (
  valid_other (λ i above. (meets_exactly l.tasks i above).0) (λ k h on. on),
  valid_other (λ i above. (meets_exactly l.tasks i above).1) (λ k h on. on),
)

-- of m rules the first m are all
pub first_valid : (l : Lists) (order : List ℕ) → ValidOrder l (first (length l.rules)) order ↔ ValidOrder l every_rule order
first_valid l order = (valid_fewer (λ k h on. lt→ltb k (length l.rules) h), valid_fewer (λ k h on. tt))

-- ---- and fewer tasks above can't break it

pub lawful : (l : Lists) → Sound l → Lawful (problem l)
lawful l s =
    record {
      indices = λ k h. (s.indices k h).higher;
      fewer = λ i less above sub t. go i less above sub (response_at l.tasks i above) refl t;
    }
  where
    go : (i : ℕ) (less above : ℕ → Bool) → Subset (length l.tasks) less above → (r : Option ℕ)
        → response_at l.tasks i above ≡ r → T (is_some r)
        → T (is_some (response_at l.tasks i less))
    go i less above sub (Some r) e t =
        let q = fewer_above s.tasks i less above sub (task_at l.tasks i).deadline r e in
        subst (λ (a : Option ℕ). T (is_some a)) (sym q.1) tt
    go i less above sub None e t = absurd t

-- also without rules
pub bare_lawful : {tasks : List Task} → SoundTasks tasks → Lawful (bare tasks)
bare_lawful ok =
    lawful _ (record { tasks = ok; few_rules = omega arith; indices = λ k h. absurd (omega arith); weights = λ k h. absurd (omega arith) })

-- ---- nor can shorter execution times

pub shorter_eases : {less more : List Task} → Shorter less more → (rules : List Rule)
    → Eases (problem (record { tasks = less; rules = rules })) (problem (record { tasks = more; rules = rules }))
shorter_eases {less} {more} shorter rules =
    record {
      same_tasks = shorter.same_length;
      same_rules = refl;
      still = λ i above t. go i above (response_at more i above) refl t;
    }
  where
    go : (i : ℕ) (above : ℕ → Bool) → (r : Option ℕ) → response_at more i above ≡ r → T (is_some r)
        → T (is_some (response_at less i above))
    go i above (Some r) e t =
        let q = shorter_response shorter i above (task_at more i).deadline r e in
        rw (shorter.deadline i, q.1) tt
    go i above None e t = absurd t

-- a ready task that is known to pass may take the level
pub bare_known : (tasks : List Task) (ready left known : List Bool) → Known (bare tasks) (marked left) (marked known) → (i : ℕ)
    → i < length tasks → (marked ready i && marked known i) ≡ true
    → T (within (candidate (response_at tasks) (marked ready) (marked left)) i)
bare_known tasks ready left known k i h e = (known_any (bare tasks) (marked ready) (marked left) (marked known) k i h e).1

-- the task at a level of a search without rules, where nobody left stands further down: one of the tasks, and where it is ready it
-- may take the level
module _ (tasks : List Task) (sound : SoundTasks tasks) (s : Search) (held : Searched (bare tasks) no_rule s) (level : ℕ)
    (here : s.free < level) (high : level ≤ length tasks) where
  pub bare_last : (get_or s.order (level - 1) (index 0)).0 < length tasks
  bare_last = last_task (bare tasks) (bare_lawful sound) no_rule s held level here high

  pub bare_any : (ready left : ℕ → Bool) → NoneFrom (length tasks) s.order left level
      → ready (get_or s.order (level - 1) (index 0)).0 ≡ true
      → T (within (candidate (response_at tasks) ready left) (get_or s.order (level - 1) (index 0)).0)
  bare_any ready left none e = (last_any (bare tasks) (bare_lawful sound) no_rule s held level here high ready left none e).1

-- for a loop over its levels from the last up
pub ruleset last_steps = (bare_last, none_next, chosen_any)

-- ---- so the assignment decides whether a valid order exists

module _ (l : Lists) (sound : Sound l) (active : ℕ → Bool) where
  some_valid : SomeValid (problem l) active ↔ SomeOrder l active
  some_valid = (λ s. (s.0, (valid_exactly l active s.0).0 s.1), λ s. (s.0, (valid_exactly l active s.0).1 s.1))

  pub feasible-order : T (feasible (problem l) active) ↔ SomeOrder l active
  feasible-order =
      let d = feasible_exactly (problem l) active (lawful l sound) in
      (λ t. some_valid.0 (d.0 t), λ s. d.1 (some_valid.1 s))

  -- the order that it finds is the canonical one
  pub feasible_canonical : T (feasible (problem l) active) → CanonicalOrder l active (assign (problem l) active)
  unfolding feasible
  feasible_canonical t =
      canonical_other (meets_exactly l.tasks) (λ k h. (λ on. on, λ on. on))
      (assign_canonical (problem l) active (eqb→eq (length (assign (problem l) active)) (length l.tasks) t))

  -- which is the greatest of the valid ones, and no other order is
  pub canonical_exactly : (order : List ℕ) → CanonicalOrder l active order ↔ GreatestOrder l active order
  canonical_exactly order = (is order, found)
    where
      is : (o : List ℕ) → CanonicalOrder l active o → GreatestOrder l active o
      is o c =
          record {
            valid = each_valid c.is_order (λ k h. (sound.indices k h).higher) c.each;
            greatest = λ other v. canonical_greatest c v.is_order (valid_each v.is_order v);
          }

      found : GreatestOrder l active order → CanonicalOrder l active order
      found g =
          let c = feasible_canonical (feasible-order.1 (order, g.valid)) in
          let first = is (assign (problem l) active) c in
          ⊎_elim (λ e. subst (CanonicalOrder l active) e c)
          (λ more.
          ⊎_elim (λ e. subst (CanonicalOrder l active) (sym e) c) (λ less. absurd (greater_once more less)) (first.greatest order g.valid))
          (g.greatest (assign (problem l) active) first.valid)

  -- so does a search that has ended: every level is filled exactly when there is one
  pub ended_order : (r : Search) → Ended (problem l) active r → (r.free ≡ 0) ↔ SomeOrder l active
  ended_order r ended =
      let d = ended_decides (problem l) active (lawful l sound) r ended in
      (λ z. feasible-order.0 (d.0 z), λ o. d.1 (feasible-order.1 o))

-- and fewer rules keep that there is one
pub less-feasible : (l : Lists) → Sound l → (less more : ℕ → Bool) → Subset (length l.rules) less more
    → T (feasible (problem l) more) → T (feasible (problem l) less)
less-feasible l sound less more fewer = feasible_fewer (problem l) less more fewer (lawful l sound)
