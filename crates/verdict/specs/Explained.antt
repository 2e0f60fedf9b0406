-- The verdict on lists that adding has taken is correct, and so is what solving hands over. Assumes nothing.
use Rattle.std.specs.Prelude.{is_some, Result, Ok, Err, Option, Some, None, ◌≡◌, Bool, List, [], ◌∷◌, map, ◌↔◌, ℕ, ◌≤◌, ◌<◌, T, length, get_or, take}
use Rattle.std.proofs.Math.Path.{refl}
use Rattle.std.proofs.Common.{sym, ap, subst, ◌∙◌, inl, inr, arith}
use Rattle.std.proofs.Math.Bool.{true, false}
use Rattle.std.proofs.Math.Dec.{eqb→eq}
use Rattle.std.proofs.lemmas.List.{length-map}
use Rattle.sets.specs.Choice.{true→T, false→refuted}
use Rattle.sets.specs.Bounded.{without}
use Rattle.sets.specs.Pad.{pad, pad_used, take-pad, map_at}
use Rattle.sets.specs.Marks.{first, table, marked_padded}
use Rattle.taskset.specs.declared.TaskIndex.{TaskIndex}
use Rattle.taskset.specs.declared.TaskSet.{TaskSet}
use Rattle.taskset.specs.Refusals.{max_tasks, max_rules}
use Rattle.taskset.specs.Model.{Lists, task_at, Sound}
use Rattle.taskset.specs.Adding.{lists}
use Rattle.taskset.specs.Passing.{Sized, passed}
use Rattle.response.specs.Equation.{demand, SaysResponse}
use Rattle.response.specs.Agreement.{response_says}
use Rattle.assignment.specs.Orders.{every_rule, no_rule, hp, ValidOrder}
use Rattle.assignment.specs.Audsley.{assign, feasible, response_at, problem}
use Rattle.assignment.proofs.Preemptive.{less-feasible, meets_exactly, first_valid, feasible-order}
use Rattle.assignment.specs.Search.{index, time}
use Rattle.taskset.specs.declared.refusals.Refusal.{Refusal}
use Rattle.verdict.specs.declared.Finding.{Finding}
use Rattle.verdict.specs.declared.Finding.TheVariants.{Order, Core}
use Rattle.verdict.specs.declared.Verdict.{Verdict}
use Rattle.verdict.specs.declared.Solved.{Solved}
use Rattle.verdict.specs.Core.{by_place, core_of}
use Rattle.verdict.specs.CoreLaws.{first_below, place_turn, cut_rules, cut_beyond, cut_infeasible, cut_needed, cut_empty}
use Rattle.verdict.specs.Verdict.{ordered, cored, responses_in, verdict_by, verdict_on, deciding, solving}
use Rattle.verdict.specs.Correct.{order_given, core_given, Correct, Explains}
use Rattle.verdict.specs.Solving.{assign_valid, deciding_on, solving_made}

-- an order is no core and no refusal
pub order_not_core : ◌≡◌ {A = Result Finding Refusal} (Ok Order) (Ok Core) → ⊥
order_not_core e = cc

pub order_not_refused : (k : Refusal) → ◌≡◌ {A = Result Finding Refusal} (Err k) (Ok Order) → ⊥
order_not_refused k e = cc

unindex : (xs : List ℕ) → map (λ (t : TaskIndex). t.0) (map index xs) ≡ xs
unindex [] = refl
unindex (x ∷ xs) = ap (λ (ys : List ℕ). x ∷ ys) (unindex xs)

module _ (l : Lists) (sound : Sound l) where
  abbrev n : ℕ
  n = length l.tasks

  abbrev m : ℕ
  m = length l.rules

  abbrev test : (ℕ → Bool) → Bool
  test = feasible (problem l)

  -- ---- an order

  module _ (yes : T (test (first m))) where
    abbrev order : List ℕ
    order = assign (problem l) (first m)

    abbrev answer : Verdict
    answer = ordered order (responses_in l order)

    -- as many as there are tasks
    whole : length order ≡ n
    unfolding feasible
    whole = eqb→eq (length order) n yes

    pub order-handed : order_given l answer ≡ order
    order-handed =
        let long : n ≡ length (map index order) = sym whole ∙ sym (length-map order index) in
        ap (λ (k : ℕ). map (λ (t : TaskIndex). t.0) (take k (pad max_tasks (index 0) (map index order)))) long
        ∙ ap (map (λ (t : TaskIndex). t.0)) (take-pad max_tasks (index 0) (map index order))
        ∙ unindex order

    valid : ValidOrder l (first m) order
    valid = assign_valid l sound (first m) whole

    -- task i's response in the order, and what the equation says of it
    abbrev own : ℕ → Option ℕ
    own i = response_at l.tasks i (hp order i)

    abbrev SaysAt : List ℕ → ℕ → ℕ → Type 0
    SaysAt o i r = SaysResponse l.tasks i (hp o i) (task_at l.tasks i).deadline (Some r)

    says : (i : ℕ) → T (is_some (own i)) → SaysAt order i (time (own i))
    says i t =
        go (own i) t (response_says (demand l.tasks i (hp order i)) (task_at l.tasks i).jitter (task_at l.tasks i).deadline)
      where
        go : (r : Option ℕ) → T (is_some r) → SaysResponse l.tasks i (hp order i) (task_at l.tasks i).deadline r
            → SaysAt order i (time r)
        go (Some r) t h = h
        go None t h = absurd t

    order-responses : (k : ℕ) → k < n → SaysAt (order_given l answer) (get_or (order_given l answer) k 0) (get_or answer.responses k 0)
    order-responses k h =
        let here : k < length order = omega (arith, whole) in
        let i = get_or order k 0 in
        let time-at =
        pad_used max_tasks 0 (responses_in l order) k (omega (arith, here, length-map order (λ j. time (own j))))
        ∙ map_at (λ j. time (own j)) order k 0 0 here in
        subst (λ (o : List ℕ). SaysAt o (get_or o k 0) (get_or answer.responses k 0)) (sym order-handed)
        (subst (λ (r : ℕ). SaysAt order i r) (sym time-at)
        (says i ((meets_exactly l.tasks i (hp order i)).1 (valid.meets i (valid.is_order.only k here)))))

    order_correct : Correct l answer
    order_correct =
        record {
          one = inl refl;
          order_alone = λ e. refl;
          core_alone = λ e. absurd (order_not_core e);
          refuses = (λ e. absurd (order_not_core e), λ none. absurd (none (order, (first_valid l order).0 valid)));
          valid = λ e. subst (ValidOrder l every_rule) (sym order-handed) ((first_valid l order).0 valid);
          rules = λ e. absurd (order_not_core e);
          clash = λ e. absurd (order_not_core e);
          needed = λ e. absurd (order_not_core e);
          empty = λ e. absurd (order_not_core e);
          responses = λ e. order-responses;
        }

  -- ---- a core

  module _ (no : T (test (first m)) → ⊥) where
    abbrev core : ℕ → Bool
    core = core_of test m

    abbrev refusal : Verdict
    refusal = cored (table m core)

    marks : core_given refusal ≡ core
    marks = marked_padded max_rules m core (cut_beyond test by_place (first m) m m (first_below m))

    -- said of the marks as of the core
    of_core : (P : (ℕ → Bool) → Type 0) → P core → P (core_given refusal)
    of_core P = subst P (sym marks)

    antitone : (B A : ℕ → Bool) → ((j : ℕ) → j < m → T (B j) → T (A j)) → T (test A) → T (test B)
    antitone = less-feasible l sound

    core_correct : Correct l refusal
    core_correct =
        record {
          one = inr refl;
          order_alone = λ e. absurd (order_not_core (sym e));
          core_alone = λ e. (refl, refl);
          refuses = (λ e o. no ((feasible-order l sound (first m)).1 (o.0, (first_valid l o.0).1 o.1)), λ e. refl);
          valid = λ e. absurd (order_not_core (sym e));
          rules = λ e. of_core (λ f. (k : ℕ) → T (f k) → k < m) (λ k t. first_below m k (cut_rules test by_place (first m) m k t));
          clash = λ e o. of_core (λ f. T (test f) → ⊥) (cut_infeasible test by_place (first m) m no) ((feasible-order l sound (core_given refusal)).1 o);
          needed = λ e k t.
              (feasible-order l sound (without (core_given refusal) k)).0
              (of_core (λ f. (j : ℕ) → T (f j) → T (test (without f j))) (cut_needed test by_place (first m) m antitone (place_turn m)) k t);
          empty = λ e.
              let c = of_core (λ f. ((j : ℕ) → T (f j) → ⊥) ↔ (T (test no_rule) → ⊥)) (cut_empty test by_place (first m) m antitone (place_turn m) no) in
              let o = feasible-order l sound no_rule in
              (λ none some. c.0 none (o.1 some), λ none. c.1 (λ t. none (o.0 t)));
          responses = λ e. absurd (order_not_core (sym e));
        }

  -- ---- either

  verdict_correct : Correct l (verdict_on l)
  unfolding verdict_on
  verdict_correct = go (test (first m)) refl
    where
      go : (b : Bool) → test (first m) ≡ b → Correct l (verdict_by l b (assign (problem l) (first m)) (core_of test m))
      go true e = order_correct (true→T (test (first m)) e)
      go false e = core_correct (false→refuted (test (first m)) e)

  -- where there is a task
  pub deciding_correct : 1 ≤ n → Correct l (deciding l)
  deciding_correct some = subst (Correct l) (deciding_on l (λ z. omega arith)) verdict_correct

-- so solving explains its answer
pub solving_explains : (s : TaskSet) → Sized s → (r : Solved) → r ≡ solving s → Explains s r
unfolding Explains
solving_explains s size r e made some =
    let p = passed s size made in
    subst (λ (q : Solved). Correct (lists s) q.verdict) (solving_made s made ∙ sym e)
    (deciding_correct (lists s) p.sound (omega (arith, p.ntasks)))
