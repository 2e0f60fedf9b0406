-- The revised Audsley assignment is right for any test that fewer tasks above can't break: what it fills is a valid order, and
-- where it gets stuck there is none. So it decides, for any active rules, whether a valid order exists; from any levels that
-- it could have filled it goes on to the same answer. Assumes nothing.
use Rattle.std.specs.Prelude.{Option}
use Rattle.std.specs.Prelude.{◌≡◌, refl, Bool, ◌&&◌, not, List, [], ◌∷◌, ◌⊎◌, ◌↔◌, eqb, get_or, drop}
use Rattle.std.proofs.Common.{sym, ap, subst, ◌∙◌, ⊎_elim, not-suc-le-zero, le_of_suc-le-suc, eq-zero-or-pos, arith, le→leb, eqb→eq, length-drop, get_or-drop, eq-eqb}
use Rattle.std.proofs.Math.Logic.{inl, inr}
use Prim.Native.Nat.{ℕ, zero, suc, ◌+◌, ◌<◌}
use Rattle.std.proofs.Math.Dec.{T, eqb_refl}
use Rattle.std.proofs.Math.ListN.{length}
use Rattle.sets.specs.Choice.{option, true→T, not→refuted, refuted→not, decided, lt_or_le, and_intro, and_left, and_right}
use Rattle.sets.specs.Bounded.{Subset, without, without_still, without_other, all, all_at, all_of}
use Rattle.sets.specs.Bounded.{greatest, IsGreatest, Greatest, found, nothing, greatest_is, count, count-some}
use Rattle.sets.specs.Rank.{rank, get_or-rank}
use Rattle.taskset.specs.declared.Rule.{Rule}
use Rattle.taskset.specs.Model.{rule_at}
use Rattle.assignment.specs.Orders.{IsOrder, Valid, no_rule}
use Rattle.assignment.specs.Canonical.{left_at, MayTake, EachMayTake}
use Rattle.assignment.specs.Audsley.{Problem, without_rules, passes, Passes, unassigned, blocks, ready, may_take}
use Rattle.assignment.specs.Audsley.{fill, assign, feasible, Filled, empty, level, Stuck}
use Rattle.assignment.specs.LateTasks.{EachMay}
use Rattle.assignment.specs.Levels.{unassigned_of, unassigned_is, each_only, each_count, each_order, valid_other, may_other}
use Rattle.assignment.specs.Levels.{left-unassigned, valid_each, each_valid}

-- what the argument asks of a problem: the higher task of a rule is one of its tasks, and fewer tasks above can't break the test
pub record Lawful (p : Problem) : Type 0 where
  pub indices : (k : ℕ) → k < length p.rules → (rule_at p.rules k).higher.0 < p.tasks
  pub fewer : (i : ℕ) (less above : ℕ → Bool) → Subset p.tasks less above → T (passes p i above) → T (passes p i less)

-- ---- levels that tasks may have taken

module _ (p : Problem) (active : ℕ → Bool) where
  -- the test of who may take a level says what the words say
  module _ (left : ℕ → Bool) (i : ℕ) where
    abbrev unblocked : ℕ → Bool
    unblocked k = not (blocks p.rules active left i k)

    abbrev May : Type 0
    May = MayTake p.rules (Passes p) active left i

    pub test_may : T (may_take p active left i) → May
    unfolding may_take ready
    test_may t =
        let able = and_left (ready p.rules active left i) (passes p i (without left i)) t in
        record {
          is_left = and_left (left i) (all (length p.rules) unblocked) able;
          below = λ k h on e f.
              let u = (rule_at p.rules k).higher.0 in
              let l = left (rule_at p.rules k).lower.0 in
              not→refuted (blocks p.rules active left i k)
              (all_at (length p.rules) unblocked (and_right (left i) (all (length p.rules) unblocked) able) k h)
              (and_intro (active k && l) (eqb u i) (and_intro (active k) l on f) (subst (λ (j : ℕ). T (eqb u j)) e (eqb_refl u)));
          meets = and_right (ready p.rules active left i) (passes p i (without left i)) t;
        }

    pub may_test : May → T (may_take p active left i)
    unfolding may_take ready
    may_test m =
        and_intro (ready p.rules active left i) (passes p i (without left i))
        (and_intro (left i) (all (length p.rules) unblocked) m.is_left
        (all_of (length p.rules) unblocked
        (λ k h. refuted→not (blocks p.rules active left i k) (λ b.
        let u = (rule_at p.rules k).higher.0 in
        let l = left (rule_at p.rules k).lower.0 in
        let both = and_left (active k && l) (eqb u i) b in
        m.below k h (and_left (active k) l both) (eqb→eq u i (and_right (active k && l) (eqb u i) b)) (and_right (active k) l both)))))
        m.meets

  -- each level was given to a task that might take it
  filled_at : (low : List ℕ) → Filled p active low → (k : ℕ) → k < length low
      → T (may_take p active (unassigned p.tasks (drop (suc k) low)) (get_or low k 0))
  filled_at all empty k h = absurd (not-suc-le-zero h)
  filled_at all (level i low l t f) zero h = t
  filled_at all (level i low l t f) (suc k) h = filled_at low f k (le_of_suc-le-suc h)

  -- so the task there passes with any tasks above it that have no level further down
  pub filled_passes : Lawful p → (low : List ℕ) → Filled p active low → (k : ℕ) → k < length low → (left : ℕ → Bool)
      → ((j : ℕ) → k < j → j < length low → T (left (get_or low j 0)) → ⊥)
      → T (passes p (get_or low k 0) (without left (get_or low k 0)))
  filled_passes lawful low f k h left out =
      let i = get_or low k 0 in
      let rest = drop (suc k) low in
      lawful.fewer i (without left i) (without (unassigned p.tasks rest) i)
      (λ j l t.
      let still = without_still left i j t in
      without_other (unassigned p.tasks rest) i j still.1
      (unassigned_of p.tasks rest j l (λ m.
      let at = suc k + rank rest j in
      let same : get_or low at 0 ≡ j = sym (get_or-drop (suc k) low (rank rest j) 0) ∙ get_or-rank rest j m in
      out at (omega arith) (omega (arith, m, length-drop (suc k) low)) (subst (λ (q : ℕ). T (left q)) (sym same) still.0))))
      (test_may (unassigned p.tasks rest) i (filled_at low f k h)).meets

  -- so these are levels that tasks might take
  pub filled_each_may : (low : List ℕ) → Filled p active low → EachMay p.tasks p.rules (Passes p) active low
  filled_each_may low f k h = test_may (unassigned p.tasks (drop (suc k) low)) (get_or low k 0) (filled_at low f k h)

  pub filled_only : (low : List ℕ) → Filled p active low → (k : ℕ) → k < length low → get_or low k 0 < p.tasks
  filled_only low f = each_only p.tasks p.rules (Passes p) active low (filled_each_may low f)

  pub filled_count : (low : List ℕ) → Filled p active low → count p.tasks (unassigned p.tasks low) + length low ≡ p.tasks
  filled_count low f = each_count p.tasks p.rules (Passes p) active low (filled_each_may low f)

  -- ---- sound

  module _ (order : List ℕ) (f : Filled p active order) (long : length order ≡ p.tasks) where
    pub filled_order : IsOrder p.tasks order
    filled_order = each_order p.tasks p.rules (Passes p) active order (filled_each_may order f) long

    pub filled_each : EachMayTake p.rules (Passes p) active order
    filled_each k h =
        rw (left-unassigned filled_order k h) (filled_each_may order f k h)

    pub filled_valid : Lawful p → Valid p.tasks p.rules (Passes p) active order
    filled_valid lawful = each_valid filled_order lawful.indices filled_each

  -- ---- complete

  -- where a valid order exists, some task may take the next level: of those without one, the last in that order
  module _ (lawful : Lawful p) (order : List ℕ) (v : Valid p.tasks p.rules (Passes p) active order) (low : List ℕ) where
    abbrev left_by_rank : ℕ → Bool
    left_by_rank r = unassigned p.tasks low (get_or order r 0)

    left_by_rank_lem : (j : ℕ) → T (unassigned p.tasks low j) → (rank order j < length order) × T (left_by_rank (rank order j))
    left_by_rank_lem j t =
        let here = v.is_order.every j (unassigned_is p.tasks low j t).0 in
        (here, subst (λ (i : ℕ). T (unassigned p.tasks low i)) (sym (get_or-rank order j here)) t)

    last_may : (r : ℕ) → IsGreatest (length order) left_by_rank r → T (may_take p active (unassigned p.tasks low) (get_or order r 0))
    last_may r g =
        let left = unassigned p.tasks low in
        let i = get_or order r 0 in
        let took = valid_each v.is_order v r g.below in
        may_test left i
        (record {
          is_left = g.passes;
          below = λ k h on e t. took.below k h on e (early (rule_at p.rules k).lower.0 t);
          meets = lawful.fewer i (without left i) (without (left_at order r) i)
              (λ j h t. let still = without_still left i j t in without_other (left_at order r) i j still.1 (early j still.0))
              took.meets;
        })
      where
        -- nobody without a level stands further down
        early : (j : ℕ) → T (unassigned p.tasks low j) → T (left_at order r j)
        early j t =
            le→leb (rank order j) r
            (⊎_elim (λ l. absurd (g.last (rank order j) (left_by_rank_lem j t).0 l (left_by_rank_lem j t).1)) (λ h. h) (lt_or_le r (rank order j)))

    some_may : (i : ℕ) → T (unassigned p.tasks low i) → (j : ℕ) × (j < p.tasks) × T (may_take p active (unassigned p.tasks low) j)
    some_may i t = go (greatest (length order) left_by_rank) (greatest_is (length order) left_by_rank)
      where
        go : (o : Option ℕ) → Greatest (length order) left_by_rank o
            → (j : ℕ) × (j < p.tasks) × T (may_take p active (unassigned p.tasks low) j)
        go o (found r g) = (get_or order r 0, v.is_order.only r g.below, last_may r g)
        go o (nothing out) = absurd (out (rank order i) (left_by_rank_lem i t).0 (left_by_rank_lem i t).1)

  -- ---- a decision

  -- levels with this property, and either all are filled or no task may take the next
  abbrev EndsWith : (List ℕ → Type 0) → List ℕ → Type 0
  EndsWith Kept low = Kept low × ((length low ≡ p.tasks) ⊎ Stuck p active (unassigned p.tasks low))

  abbrev Ends : List ℕ → Type 0
  Ends = EndsWith (Filled p active)

  -- what each level keeps that goes to the greatest index holds where the assignment ends
  module _ (Kept : List ℕ → Type 0)
      (more : (i : ℕ) (low : List ℕ) → IsGreatest p.tasks (may_take p active (unassigned p.tasks low)) i → Kept low → Kept (i ∷ low)) where
    fill-ends : (levels : ℕ) (low : List ℕ) → levels + length low ≡ p.tasks → Kept low → EndsWith Kept (fill p active levels low)
    unfolding fill
    fill-ends zero low e kept = (kept, inl (omega arith))
    fill-ends (suc levels) low e kept =
        go (greatest p.tasks (may_take p active (unassigned p.tasks low)))
        (greatest_is p.tasks (may_take p active (unassigned p.tasks low)))
        (λ i g. fill-ends levels (i ∷ low) (omega arith) (more i low g kept))
      where
        go : (o : Option ℕ) → Greatest p.tasks (may_take p active (unassigned p.tasks low)) o
            → ((i : ℕ) → IsGreatest p.tasks (may_take p active (unassigned p.tasks low)) i → EndsWith Kept (fill p active levels (i ∷ low)))
            → EndsWith Kept (option low (λ i. fill p active levels (i ∷ low)) o)
        go o (found i g) later = later i g
        go o (nothing out) later = (kept, inr out)

    pub assign_keeps : Kept [] → EndsWith Kept (assign p active)
    assign_keeps none = fill-ends p.tasks [] (omega arith) none

  abbrev pub SomeValid : Type 0
  SomeValid = (order : List ℕ) × Valid p.tasks p.rules (Passes p) active order

  -- then all are exactly when a valid order exists, whoever took the levels
  pub ends_decide : Lawful p → (low : List ℕ) → Ends low → (length low ≡ p.tasks) ↔ SomeValid
  ends_decide lawful low ends =
      (λ long. (low, filled_valid low ends.0 long lawful), λ s. ⊎_elim (λ long. long) (stuck s) ends.1)
    where
      -- with a valid order about, no task may take the next level only where every task has one
      stuck : SomeValid → Stuck p active (unassigned p.tasks low) → length low ≡ p.tasks
      stuck s out =
          ⊎_elim (λ none_left. omega (arith, filled_count low ends.0))
          (λ some_left.
          let i = count-some p.tasks (unassigned p.tasks low) some_left in
          let j = some_may lawful s.0 s.1 low i.0 i.2 in
          absurd (out j.0 j.1 j.2))
          (eq-zero-or-pos (count p.tasks (unassigned p.tasks low)))

  pub assign-ends : Ends (assign p active)
  assign-ends = assign_keeps (Filled p active) (λ i low g f. level i low g.below g.passes f) empty

  pub assign_filled : Filled p active (assign p active)
  assign_filled = assign-ends.0

  pub feasible_exactly : Lawful p → T (feasible p active) ↔ SomeValid
  unfolding feasible
  feasible_exactly lawful =
      let d = ends_decide lawful (assign p active) assign-ends in
      let levels = length (assign p active) in
      (λ t. d.0 (eqb→eq levels p.tasks t), λ s. true→T (eqb levels p.tasks) (eq-eqb levels p.tasks (d.1 s)))

-- ---- what breaks no more: fewer active rules, and an easier test

-- a valid order stays so with fewer rules, whatever a deadline met means
pub valid_fewer : {n : ℕ} {rules : List Rule} {Meets : ℕ → (ℕ → Bool) → Type 0} {less more : ℕ → Bool} {order : List ℕ}
    → Subset (length rules) less more → Valid n rules Meets more order → Valid n rules Meets less order
valid_fewer fewer = valid_other (λ i above m. m) fewer

-- q has the tasks and rules of p, and its test passes whatever that of p passes
pub record Eases (q p : Problem) : Type 0 where
  pub same_tasks : q.tasks ≡ p.tasks
  pub same_rules : q.rules ≡ p.rules
  pub still : (i : ℕ) (above : ℕ → Bool) → T (passes p i above) → T (passes q i above)

module _ {q p : Problem} (eases : Eases q p) (less more : ℕ → Bool) (fewer : Subset (length p.rules) less more) where
  may_eased : (left : ℕ → Bool) (i : ℕ) → T (may_take p more left i) → T (may_take q less left i)
  may_eased left i t =
      may_test q less left i
      (subst (λ (rules : List Rule). MayTake rules (Passes q) less left i) (sym eases.same_rules)
      (may_other eases.still fewer (test_may p more left i t)))

  -- the same levels may be filled
  pub filled_eased : (low : List ℕ) → Filled p more low → Filled q less low
  filled_eased all empty = empty
  filled_eased all (level i low h t f) =
      level i low (rw eases.same_tasks h)
      (subst (λ (n : ℕ). T (may_take q less (unassigned n low) i)) (sym eases.same_tasks) (may_eased (unassigned p.tasks low) i t))
      (filled_eased low f)

  -- and what was feasible stays so
  pub feasible_eased : Lawful q → Lawful p → T (feasible p more) → T (feasible q less)
  feasible_eased lawful_q lawful_p t =
      let s = (feasible_exactly p more lawful_p).0 t in
      (feasible_exactly q less lawful_q).1
      (s.0, rw (eases.same_tasks, eases.same_rules) (valid_other eases.still fewer s.1))

pub eases_itself : (p : Problem) → Eases p p
eases_itself p = record { same_tasks = refl; same_rules = refl; still = λ i above t. t }

module _ (p : Problem) (less more : ℕ → Bool) (fewer : Subset (length p.rules) less more) where
  pub feasible_fewer : Lawful p → T (feasible p more) → T (feasible p less)
  feasible_fewer lawful = feasible_eased (eases_itself p) less more fewer lawful lawful

-- a rule whose two tasks are not both left puts nobody below anybody there, so whoever may take the level without it may with it
pub may_without : (p : Problem) (active left : ℕ → Bool) (k : ℕ)
    → (T (left (rule_at p.rules k).higher.0) → T (left (rule_at p.rules k).lower.0) → ⊥)
    → (i : ℕ) → T (may_take p (without active k) left i) → T (may_take p active left i)
may_without p active left k apart i t =
    let m = test_may p (without active k) left i t in
    may_test p active left i
    (record {
      is_left = m.is_left;
      below = λ j g on e low. ⊎_elim
          (λ same.
          let at = eqb→eq k j same in
          apart (subst (λ (q : ℕ). T (left q)) (sym e ∙ ap (λ (q : ℕ). (rule_at p.rules q).higher.0) (sym at)) m.is_left)
          (subst (λ (q : ℕ). T (left (rule_at p.rules q).lower.0)) (sym at) low))
          (λ other. m.below j g
          (without_other active k j (λ q. other (subst (λ (r : ℕ). T (eqb k r)) q (eqb_refl k))) on) e low)
          (decided (eqb k j));
      meets = m.meets;
    })

-- where the search is stuck it stays so without it
pub stuck_without : (p : Problem) (active left : ℕ → Bool) (k : ℕ)
    → (T (left (rule_at p.rules k).higher.0) → T (left (rule_at p.rules k).lower.0) → ⊥)
    → Stuck p active left → Stuck p (without active k) left
stuck_without p active left k apart stuck i h t = stuck i h (may_without p active left k apart i t)

-- and whoever may take a level with rules may take it without
pub may_bare : (p : Problem) (active left : ℕ → Bool) (i : ℕ) → T (may_take p active left i) → T (may_take (without_rules p) no_rule left i)
may_bare p active left i t =
    let m = test_may p active left i t in
    may_test (without_rules p) no_rule left i
    (record { is_left = m.is_left; below = λ k h. absurd (not-suc-le-zero h); meets = m.meets })
