-- Without rules nothing is tried; stuck without them, none is in the core; else the core is what is left. Assumes nothing.
use Rattle.std.proofs.Common.{◌≡◌, ℕ, Bool, false, T, length, replicate, refl, ap, sym, subst, eqb-true, inr, arith, rules, ◌∙◌}
use Rattle.sets.specs.Marks.{first, marked, marked-none, marked_first_none}
use Rattle.taskset.specs.Refusals.{max_rules}
use Rattle.taskset.specs.Model.{Lists, Sound}
use Rattle.taskset.specs.Views.{lists_of}
use Rattle.assignment.specs.declared.Search.{Search}
use Rattle.assignment.specs.LateTasks.{unassignable}
use Rattle.assignment.proofs.LateLaws.{left-unassignable}
use Rattle.assignment.specs.Audsley.{feasible, problem}
use Rattle.assignment.proofs.Preemptive.{lawful}
use Rattle.assignment.specs.Search.{Ended}
use Rattle.assignment.specs.Hints.{searched_bare}
use Rattle.verdict.specs.Core.{by_place, cut_of, core_of}
use Rattle.verdict.specs.Cutting.{known_own, cut_none, none_searched, none-stay, core-marked}
use Rattle.verdict.proofs.core.Goals as goal

-- the tasks that the search without rules leaves
rest : (l : Lists) (sound : Sound l) (none : ℕ → Bool) (s : Search) → Ended (problem l) none s → ((k : ℕ) → T (none k) → ⊥)
    → marked s.left ≡ unassignable l
rest l sound none s ended away = left-unassignable l sound _ _ ended (inr (λ k h on. absurd (away k on)))

no_marks : (n k : ℕ) → T (marked (replicate n false) k) → ⊥
no_marks n k on = subst (λ (f : ℕ → Bool). T (f k)) (marked-none n) on

-- no rules: nothing is tried
pub returns-then-is_empty : goal.returns-then-is_empty
returns-then-is_empty c =
    let l = lists_of c.args.system in
    let test = feasible (problem l) in
    let none = eqb-true (length l.rules) 0 (sym c.if-is_empty.ensures) in
    record {
      core_value =
          core-marked l c.args.system.sound _ refl (marked_first_none max_rules ∙ cut_none test by_place (first 0) ∙ ap (core_of test) (sym none));
      left = left-unassignable l c.args.system.sound _ _ c.requires.ended (inr (λ k h on. omega (arith, h, none)));
    }

pub fill_levels-other-requires-clause-searched : goal.fill_levels-other-requires-clause-searched
fill_levels-other-requires-clause-searched c =
    none_searched (problem (lists_of c.args.system)) (lawful (lists_of c.args.system) c.args.system.sound) max_rules _ _ c.requires.ended.searched

pub fill_levels-other-requires-clause-helped : goal.fill_levels-other-requires-clause-helped
fill_levels-other-requires-clause-helped c =
    record {
      known = known_own c.without_rules.ensures _ _ c.passing-known.ensures;
      other = searched_bare (problem (lists_of c.args.system)) _ _ c.requires.ended.searched;
    }

pub cut_down-core-requires : goal.cut_down-core-requires
cut_down-core-requires c =
    record {
      long = search rules;
      stuck = c.requires.ended;
      unfilled = c.requires.le_free;
      known = known_own c.without_rules.ensures _ _ c.passing-known.ensures;
      other = searched_bare (problem (lists_of c.args.system)) _ _ c.fill_levels-other.ensures.ended.searched;
    }

pub returns : goal.returns
returns c =
    let l = lists_of c.args.system in
    let long : length c.cut_down-core.result ≡ max_rules = search rules in
    let start = ap (λ (f : ℕ → Bool). cut_of (feasible (problem l)) by_place f (length l.rules)) c.requires.active_value in
    record {
      core_value = core-marked l c.args.system.sound _ long (c.cut_down-core.ensures ∙ start);
      left = rest l c.args.system.sound _ _ c.fill_levels-other.ensures.ended (no_marks max_rules);
    }

-- stuck without rules: they are infeasible, and the core is empty
pub returns-then-other-gt0 : goal.returns-then-other-gt0
returns-then-other-gt0 c =
    let l = lists_of c.args.system in
    let ended = c.fill_levels-other.ensures.ended in
    let empty = none-stay (problem l) (lawful l c.args.system.sound) max_rules _ ended (λ z. omega (arith, z)) in
    record {
      core_value = core-marked l c.args.system.sound _ refl empty;
      left = rest l c.args.system.sound _ _ ended (no_marks max_rules);
    }
