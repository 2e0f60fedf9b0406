-- Filling levels, over any test: what the arrays of a search become when a task takes the next level, and what they say when
-- nobody does. Assumes nothing.
use Rattle.std.specs.Prelude.{Option, Some, None, is_some, option_map}
use Rattle.std.proofs.Math.Path.{◌≡◌, refl, sym, ap, subst, fun_ext}
use Rattle.std.proofs.Common.{◌∙◌, inl, inr, ⊎_elim, arith, get_or-append-add}
use Rattle.std.specs.Prelude.{Bool, ◌&&◌, ◌↔◌, T, ltb, get_or, set, replicate}
use Rattle.std.proofs.Math.Bool.{true, false}
use mathlib.Core.List.{List, [], ◌∷◌, ◌++◌, map}
use Prim.Native.Nat.{ℕ, zero, suc, ◌+◌, ◌-◌, ◌≤◌, ◌<◌}
use Rattle.std.proofs.Math.ListN.{length, get_or-append}
use Rattle.std.proofs.lemmas.List.{replicate-append-replicate, length-map, length-replicate}
use Rattle.sets.specs.Choice.{pick, option, and-true}
use Rattle.sets.specs.Bounded.{Subset, without, greatest, Greatest, found, nothing, greatest_is}
use Rattle.sets.specs.Marks.{first, marked, marked-without}
use Rattle.taskset.specs.declared.TaskIndex.{TaskIndex}
use Rattle.taskset.specs.Refusals.{max_tasks}
use Rattle.assignment.specs.declared.Choice.{Choice}
use Rattle.assignment.specs.declared.Search.{Search}
use Rattle.assignment.specs.Audsley.{Problem, ready, unassigned, may_take, fill, assign, feasible, empty, level, Stuck}
use Rattle.assignment.specs.Levels.{unassigned_cons}
use Rattle.assignment.specs.Decision.{Lawful, filled_count, ends_decide, feasible_exactly, Eases, eases_itself, filled_eased}
use Rattle.assignment.specs.Search.{index, time, candidate, within, choice_of, chosen, AnyOf, lowest, Holds, candidates, placed}
use Rattle.assignment.specs.Search.{Searched, Ended, responses, HoldsLevels, Assigns}

-- ---- the arrays

lowest-none : {A : Type 0} (n : ℕ) (d : A) → n ≤ max_tasks → replicate max_tasks d ≡ lowest n d []
lowest-none n d h =
    let whole : max_tasks ≡ n + (max_tasks - n) = omega arith in
    let all : n - 0 ≡ n = omega arith in
    ap (λ (m : ℕ). replicate m d) whole
    ∙ sym (replicate-append-replicate n (max_tasks - n) d)
    ∙ ap (λ (m : ℕ). replicate m d ++ replicate (max_tasks - n) d) (sym all)

set-replicate : {A : Type 0} (k : ℕ) (d x : A) (ys : List A) → set (replicate (suc k) d ++ ys) k x ≡ replicate k d ++ x ∷ ys
set-replicate zero d x ys = refl
set-replicate (suc k) d x ys = ap (λ (zs : List _). d ∷ zs) (set-replicate k d x ys)

lowest_set : {A : Type 0} (n free : ℕ) (d x : A) (xs : List A) → suc free + length xs ≡ n
    → set (lowest n d xs) free x ≡ lowest n d (x ∷ xs)
lowest_set n free d x xs e =
    let now : n - length xs ≡ suc free = omega arith in
    let next : free ≡ n - suc (length xs) = omega arith in
    ap (λ (k : ℕ). set (replicate k d ++ (xs ++ replicate (max_tasks - n) d)) free x) now
    ∙ set-replicate free d x (xs ++ replicate (max_tasks - n) d)
    ∙ ap (λ (k : ℕ). replicate k d ++ x ∷ (xs ++ replicate (max_tasks - n) d)) next

pub lowest_at : {A : Type 0} (n : ℕ) (d : A) (xs : List A) (k : ℕ) → k < length xs
    → get_or (lowest n d xs) ((n - length xs) + k) d ≡ get_or xs k d
lowest_at n d xs k h =
    let free = n - length xs in
    let rest = xs ++ replicate (max_tasks - n) d in
    ap (λ (m : ℕ). get_or (lowest n d xs) (m + k) d) (sym (length-replicate free d))
    ∙ get_or-append-add (replicate free d) rest k d
    ∙ get_or-append xs (replicate (max_tasks - n) d) d k h

-- ---- a search with no level filled

pub holds_none : (n : ℕ) (left : List Bool) → n ≤ max_tasks → marked left ≡ first n
    → Holds n [] [] (record { order = replicate max_tasks (index 0); responses = replicate max_tasks 0; free = n; left = left })
unfolding unassigned
holds_none n left few marks =
    record {
      order = lowest-none n (index 0) few;
      responses = lowest-none n 0 few;
      long = refl;
      free = omega arith;
      left = marks ∙ fun_ext (λ j. and-true (ltb j n));
    }

-- ---- one level more

holds_next : {n : ℕ} {low times : List ℕ} {s : Search} → Holds n low times s → 1 ≤ s.free → (c : Choice) → c.task.0 < length s.left
    → Holds n (c.task.0 ∷ low) (c.response ∷ times) (placed s c)
holds_next {n} {low} {times} {s} holds more c h =
    let room : suc (s.free - 1) + length low ≡ n = omega (arith, holds.free) in
    record {
      order =
          ap (λ (xs : List TaskIndex). set xs (s.free - 1) c.task) holds.order
          ∙ lowest_set n (s.free - 1) (index 0) c.task (map index low) (omega (arith, room, length-map low index));
      responses =
          ap (λ (xs : List ℕ). set xs (s.free - 1) c.response) holds.responses
          ∙ lowest_set n (s.free - 1) 0 c.response times (omega (arith, room, holds.long));
      long = ap suc holds.long;
      free = omega (arith, holds.free);
      left =
          marked-without s.left c.task.0 h
          ∙ ap (λ (f : ℕ → Bool). without f c.task.0) holds.left
          ∙ sym (unassigned_cons n low c.task.0);
    }

-- ---- who was chosen

module _ (n : ℕ) (candidates : ℕ → Option ℕ) where
  chose : (c : Choice) → Some c ≡ chosen n candidates → (greatest n (within candidates) ≡ Some c.task.0) × (c.response ≡ time (candidates c.task.0))
  unfolding chosen
  chose c e = go (greatest n (within candidates)) refl e
    where
      go : (o : Option ℕ) → greatest n (within candidates) ≡ o → Some c ≡ option_map (choice_of candidates) o
          → (greatest n (within candidates) ≡ Some c.task.0) × (c.response ≡ time (candidates c.task.0))
      go (Some i) f e = let same : choice_of candidates i ≡ c = cc in rw (← same) (f, refl)
      go None f e = cc

  chose_nobody : None ≡ chosen n candidates → greatest n (within candidates) ≡ None
  unfolding chosen
  chose_nobody e = go (greatest n (within candidates)) refl e
    where
      go : (o : Option ℕ) → greatest n (within candidates) ≡ o → None ≡ option_map (choice_of candidates) o → greatest n (within candidates) ≡ None
      go (Some i) f e = cc
      go None f e = f

  -- it is one of those that may
  pub chosen_any : {r : Option Choice} → r ≡ chosen n candidates → AnyOf n candidates r
  unfolding chosen
  chosen_any {r} e = subst (AnyOf n candidates) (sym e) (go (greatest n (within candidates)) (greatest_is n (within candidates)))
    where
      go : (o : Option ℕ) → Greatest n (within candidates) o → AnyOf n candidates (option_map (choice_of candidates) o)
      go o (found i g) = (g.below, g.passes)
      go o (nothing out) = out

-- ---- a search that goes on

module _ (p : Problem) (active : ℕ → Bool) where
  abbrev n : ℕ
  n = p.tasks

  -- the candidates within the deadline are the tasks that may take the level
  candidates_may : (left : ℕ → Bool)
      → within (candidate p.test (ready p.rules active left) left) ≡ may_take p active left
  unfolding may_take
  candidates_may left = fun_ext (λ i. go i (ready p.rules active left i))
    where
      go : (i : ℕ) (b : Bool)
          → is_some (pick b (p.test i (without left i)) None) ≡ (b && is_some (p.test i (without left i)))
      go i true = refl
      go i false = refl

  -- `s` stands for levels from which the assignment goes on to the same end as from where it started
  abbrev pub Reached : Search → Search → Type 0
  Reached from s =
      (start : List ℕ) → HoldsLevels p start from
      → (low : List ℕ) × HoldsLevels p low s × (fill p active (n - length low) low ≡ fill p active (n - length start) start)

  pub reached_full : (from s : Search) → s.free ≡ 0 → Reached from s → Assigns p active from s
  unfolding fill
  reached_full from s z reached start h =
      let r = reached start h in
      let none_free : n - length r.0 ≡ 0 = sym r.1.free ∙ z in
      subst (λ (low : List ℕ). HoldsLevels p low s) (ap (λ (k : ℕ). fill p active k r.0) (sym none_free) ∙ r.2) r.1

  -- with every level filled, or nobody to take the next, it is known whether the active rules are feasible
  pub ended_decides : Lawful p → (s : Search) → Ended p active s → (s.free ≡ 0) ↔ T (feasible p active)
  ended_decides lawful s ended =
      let held = ended.searched in
      let few = filled_count p active held.low held.filled in
      let d = ends_decide p active lawful held.low (
        held.filled,
        ⊎_elim (λ z. inl (omega (arith, z, held.holds.free, few)))
            (λ stuck. inr (subst (Stuck p active) held.holds.left stuck)) ended.ends,
      )
      in
      let f = feasible_exactly p active lawful in
      (λ z. f.1 (d.0 (omega (arith, z, held.holds.free, few))), λ t. omega (arith, d.1 (f.0 t), held.holds.free))

  module _ (s : Search) (readies : ℕ → Bool) (is-ready : readies ≡ ready p.rules active (marked s.left)) where
    may : within (candidates p readies s) ≡ may_take p active (marked s.left)
    may =
        ap {B = ℕ → Bool} (λ f i. is_some (candidate p.test f (marked s.left) i)) is-ready
        ∙ candidates_may (marked s.left)

    pub any_stuck : AnyOf n (candidates p readies s) None → Stuck p active (marked s.left)
    any_stuck out i h t = out i h (subst (λ (f : ℕ → Bool). T (f i)) (sym may) t)

    -- whoever takes the level, it may have been filled so
    pub searched_next : Searched p active s → 1 ≤ s.free → (c : Choice) → AnyOf n (candidates p readies s) (Some c)
        → c.task.0 < length s.left → Searched p active (placed s c)
    searched_next held more c any h =
        record {
          low = c.task.0 ∷ held.low;
          times = c.response ∷ held.times;
          filled =
              level c.task.0 held.low any.0
              (subst (λ (f : ℕ → Bool). T (may_take p active f c.task.0)) held.holds.left
              (subst (λ (f : ℕ → Bool). T (f c.task.0)) may any.1))
              held.filled;
          holds = holds_next held.holds more c h;
        }

    -- and where the greatest does, it is the assignment's own
    module _ (low : List ℕ) (holds : HoldsLevels p low s) (more : 1 ≤ s.free) where
      best : greatest n (within (candidates p readies s)) ≡ greatest n (may_take p active (unassigned n low))
      best = ap (greatest n) may ∙ ap (λ (f : ℕ → Bool). greatest n (may_take p active f)) holds.left

      fills : (o : Option ℕ) → greatest n (within (candidates p readies s)) ≡ o
          → fill p active (n - length low) low ≡ option low (λ i. fill p active (n - suc (length low)) (i ∷ low)) o
      unfolding fill
      fills o e =
          let next : n - length low ≡ suc (n - suc (length low)) = omega (arith, holds.free) in
          ap (λ (k : ℕ). fill p active k low) next
          ∙ ap (option low (λ i. fill p active (n - suc (length low)) (i ∷ low))) (sym best ∙ e)

      -- its response is that of a ready task
      own : (i : ℕ) → T (within (candidates p readies s) i) → time (candidates p readies s i) ≡ time (p.test i (unassigned n (i ∷ low)))
      own i w =
          go (readies i) w
          ∙ ap (λ (f : ℕ → Bool). time (p.test i (without f i))) holds.left
          ∙ ap (λ (f : ℕ → Bool). time (p.test i f)) (sym (unassigned_cons n low i))
        where
          go : (b : Bool) → T (is_some (pick b (p.test i (without (marked s.left) i)) None))
              → time (pick b (p.test i (without (marked s.left) i)) None) ≡ time (p.test i (without (marked s.left) i))
          go true v = refl
          go false v = absurd v

    module _ (from : Search) (reached : Reached from s) (more : 1 ≤ s.free) where
      pub reached_stuck : None ≡ chosen n (candidates p readies s) → Assigns p active from s
      reached_stuck e start h =
          let r = reached start h in
          subst (λ (low : List ℕ). HoldsLevels p low s)
          (sym (fills r.0 r.1 more None (chose_nobody n (candidates p readies s) e)) ∙ r.2) r.1

      pub reached_next : (c : Choice) → c.task.0 < length s.left → Some c ≡ chosen n (candidates p readies s)
          → Reached from (placed s c)
      reached_next c here e start h =
          let r = reached start h in
          let best = chose n (candidates p readies s) c e in
          let any = chosen_any n (candidates p readies s) e in (
            c.task.0 ∷ r.0,
            subst (λ (w : ℕ). Holds n (c.task.0 ∷ r.0) (w ∷ responses p r.0) (placed s c))
                (best.1 ∙ own r.0 r.1 more c.task.0 any.1)
                (holds_next r.1 more c here),
            sym (fills r.0 r.1 more (Some c.task.0) best.0) ∙ r.2,
          )

-- where less is broken it may have filled the same levels
pub searched_eased : {q p : Problem} → Eases q p → (less more : ℕ → Bool) → Subset (length p.rules) less more → (s : Search)
    → Searched p more s → Searched q less s
searched_eased eases less more fewer s held =
    record {
      low = held.low;
      times = held.times;
      filled = filled_eased eases less more fewer held.low held.filled;
      holds = rw eases.same_tasks held.holds;
    }

pub searched_fewer : (p : Problem) (less more : ℕ → Bool) → Subset (length p.rules) less more → (s : Search)
    → Searched p more s → Searched p less s
searched_fewer p less more fewer = searched_eased (eases_itself p) less more fewer

-- ---- from the start

module _ (p : Problem) (active : ℕ → Bool) (s : Search) (holds : Holds p.tasks [] [] s) where
  pub searched_none : Searched p active s
  searched_none = record { low = []; times = []; filled = empty; holds = holds }

  pub assigns_none : (r : Search) → Assigns p active s r → HoldsLevels p (assign p active) r
  assigns_none r assigns =
      let all : p.tasks - 0 ≡ p.tasks = omega arith in
      subst (λ (k : ℕ). HoldsLevels p (fill p active k []) r) all (assigns [] holds)
