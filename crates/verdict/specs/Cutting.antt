-- Cutting a core down, over any test: what a rule tried leaves, searched for or not; and the core as an array. Assumes nothing.
use Rattle.std.specs.Prelude.{◌≡◌, refl, Bool, false, List, ℕ, ◌<◌, T, length, set, replicate}
use Rattle.std.proofs.Common.{sym, subst, ◌∙◌, inr, ⊎_elim, arith, length-set}
use Rattle.sets.specs.Marks.{first, marked, marked-none, marked-without, table_is}
use Rattle.sets.specs.Choice.{T→true, refuted→false}
use Rattle.sets.specs.Bounded.{Subset, without, without_still}
use Rattle.taskset.specs.declared.Task.{Task}
use Rattle.taskset.specs.Refusals.{max_rules}
use Rattle.taskset.specs.Model.{Lists, rule_at, Sound}
use Rattle.assignment.specs.declared.Search.{Search}
use Rattle.assignment.specs.Audsley.{Problem, without_rules, feasible, Stuck, problem, bare}
use Rattle.assignment.specs.Decision.{Lawful, stuck_without, feasible_fewer}
use Rattle.assignment.specs.Search.{Searched, Ended, Known}
use Rattle.assignment.specs.Filling.{ended_decides, searched_fewer}
use Rattle.assignment.specs.Hints.{searched_bare}
use Rattle.verdict.specs.declared.Cut.{Cut}
use Rattle.verdict.specs.Core.{tried, by_place, cut_of, core_of}
use Rattle.verdict.specs.CoreLaws.{first_below, place_turn, cut_beyond, cut_hopeless}
use Rattle.verdict.specs.Cut.{Cutting, core_marks}

-- ---- a rule tried

module _ (test : (ℕ → Bool) → Bool) where
  tried_stays : (active : ℕ → Bool) (k : ℕ) → T (test (without active k)) → active ≡ tried test active k
  unfolding tried
  tried_stays active k t = rw (T→true (test (without active k)) t)

  tried_goes : (active : ℕ → Bool) (k : ℕ) → (T (test (without active k)) → ⊥) → without active k ≡ tried test active k
  unfolding tried
  tried_goes active k t = rw (refuted→false (test (without active k)) t)

  pub cut_none : (turn : ℕ → ℕ) (start : ℕ → Bool) → start ≡ cut_of test turn start 0
  unfolding cut_of
  cut_none turn start = refl

-- ---- while a core is cut down

-- what is known of a system's tasks is known of its own list
pub known_own : {lent own : List Task} → lent ≡ own → (left known : ℕ → Bool) → Known (bare lent) left known → Known (bare own) left known
known_own e left known = subst (λ (tasks : List Task). Known (bare tasks) left known) e

module _ (p : Problem) (lawful : Lawful p) (c : Cut) (cutting : Cutting p c) (k : ℕ) (h : k < max_rules) where
  -- the rules that are left in it without this one, as the code writes them
  abbrev less : List Bool
  less = set c.active k false

  pub less_marks : marked less ≡ without (marked c.active) k
  less_marks = marked-without c.active k (omega (arith, cutting.long))

  fewer : Subset (length p.rules) (marked less) (marked c.active)
  fewer j g t = (without_still (marked c.active) k j (subst (λ (f : ℕ → Bool). T (f j)) less_marks t)).0

  pub cut_searched : Searched p (marked less) c.stuck
  cut_searched = searched_fewer p (marked less) (marked c.active) fewer c.stuck cutting.stuck.searched

  -- with the rest infeasible, the rule goes
  pub goes : (s : Search) → Ended p (marked less) s → (s.free ≡ 0 → ⊥) → marked less ≡ tried (feasible p) (marked c.active) k
  goes s ended more =
      less_marks
      ∙ tried_goes (feasible p) (marked c.active) k
      (λ t. more ((ended_decides p (marked less) lawful s ended).1 (subst (λ (f : ℕ → Bool). T (feasible p f)) (sym less_marks) t)))

  -- its two tasks are not both left: the search stays stuck without it
  module _ (apart : let r = rule_at p.rules k in let left = marked c.stuck.left in T (left r.higher.0) → T (left r.lower.0) → ⊥) where
    still : Ended p (marked less) c.stuck
    still =
        record {
          searched = cut_searched;
          ends =
              ⊎_elim (λ z. absurd (omega (arith, z, cutting.unfilled)))
              (λ stuck. inr (subst (λ (f : ℕ → Bool). Stuck p f (marked c.stuck.left)) (sym less_marks)
              (stuck_without p (marked c.active) (marked c.stuck.left) k apart stuck)))
              cutting.stuck.ends;
        }

    pub cut_spared : (marked less ≡ tried (feasible p) (marked c.active) k)
        × Cutting p (record { active = less; stuck = c.stuck; known = c.known; other = c.other })
    cut_spared = (
      goes c.stuck still (λ z. omega (arith, z, cutting.unfilled)),
      record { long = simp length-set cutting.long; stuck = still; unfilled = cutting.unfilled; known = cutting.known; other = cutting.other },
    )

  module _ (s : Search) (ended : Ended p (marked less) s) where
    -- an order was found: the rule stays
    pub cut_stays : s.free ≡ 0 → (marked c.active ≡ tried (feasible p) (marked c.active) k)
        × Cutting p (record { active = c.active; stuck = c.stuck; known = c.known; other = s })
    cut_stays z = (
      tried_stays (feasible p) (marked c.active) k
          (subst (λ (f : ℕ → Bool). T (feasible p f)) less_marks ((ended_decides p (marked less) lawful s ended).0 z)),
      record {
        long = cutting.long;
        stuck = cutting.stuck;
        unfilled = cutting.unfilled;
        known = cutting.known;
        other = searched_bare p (marked less) s ended.searched;
      },
    )

    -- none was: it goes, and the next search goes on from there
    pub cut_goes : (s.free ≡ 0 → ⊥) → Known (without_rules p) (marked s.left) (marked c.known)
        → (marked less ≡ tried (feasible p) (marked c.active) k)
        × Cutting p (record { active = less; stuck = s; known = c.known; other = c.other })
    cut_goes more known = (
      goes s ended more,
      record { long = simp length-set cutting.long; stuck = ended; unfilled = omega (arith, more); known = known; other = cutting.other },
    )

-- ---- without any rule

module _ (p : Problem) (lawful : Lawful p) (n : ℕ) where
  none_fewer : (active : ℕ → Bool) → Subset (length p.rules) (marked (replicate n false)) active
  none_fewer active j h t = absurd (subst (λ (f : ℕ → Bool). T (f j)) (marked-none n) t)

  pub none_searched : (active : ℕ → Bool) (s : Search) → Searched p active s → Searched p (marked (replicate n false)) s
  none_searched active s = searched_fewer p (marked (replicate n false)) active (none_fewer active) s

  -- the core is empty where even that is infeasible
  pub none-stay : (s : Search) → Ended p (marked (replicate n false)) s → (s.free ≡ 0 → ⊥)
      → marked (replicate n false) ≡ core_of (feasible p) (length p.rules)
  none-stay s ended more =
      let none = marked-none n in
      none
      ∙ cut_hopeless (feasible p) by_place (first (length p.rules)) (length p.rules) (λ B A fewer. feasible_fewer p B A fewer lawful)
      (place_turn (length p.rules))
      (λ t. more ((ended_decides p (marked (replicate n false)) lawful s ended).1 (subst (λ (f : ℕ → Bool). T (feasible p f)) (sym none) t)))

-- ---- when it is done

-- an array that has the core's marks has them alone
pub core-marked : (l : Lists) → Sound l → (marks : List Bool) → length marks ≡ max_rules
    → marked marks ≡ core_of (feasible (problem l)) (length l.rules) → marks ≡ core_marks l
unfolding core_marks
core-marked l sound marks long e =
    let m = length l.rules in
    let test = feasible (problem l) in
    table_is max_rules m (core_of test m) marks long sound.few_rules e (cut_beyond test by_place (first m) m m (first_below m))
