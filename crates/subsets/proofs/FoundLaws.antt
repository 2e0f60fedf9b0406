-- What an order keeps that a search has found, and that it is feasible. Assumes nothing.
use Rattle.std.specs.Prelude.{Option, Some, None, IfSome, unwrap_or, ◌≡◌, Bool, true, false, List, ℕ, ◌+◌, ◌-◌, ◌*◌, ◌%◌, ◌^◌, ◌≤◌, ◌<◌, T, eqb, length, get_or, set, map, take, replicate}
use Rattle.std.specs.Int.RustNames.{bit_and, bit_or}
use Rattle.std.proofs.Common.{sym, ap, subst, ◌∙◌, arith, ltb→lt, lt→ltb, lt-ltb, le-ltb, eqb→eq, ext_get_or, get_or-take, get_or-set_same, get_or-set_other}
use Rattle.std.proofs.lemmas.List.{length-map, length-replicate, length-take-le}
use Rattle.std.proofs.lemmas.Nat.{one_shl}
use borrow.Author.Count.{below_more}
use Rattle.sets.specs.Choice.{T→true, false→refuted}
use Rattle.sets.specs.Bounded.{any_found, list_any-any}
use Rattle.sets.specs.Rank.{rank, Distinct, get_or-rank}
use Rattle.sets.specs.Pad.{map_at}
use Rattle.sets.specs.Marks.{marked-none, length-table, get_or-table}
use Rattle.sets.specs.Numbered.{numbered, number_of, number-lt, number_more, numbered_number, numbered_subset, numbered_or}
use Rattle.taskset.specs.Refusals.{Between}
use Rattle.taskset.specs.declared.TaskIndex.{TaskIndex}
use Rattle.taskset.specs.declared.Rule.{Rule}
use Rattle.taskset.specs.Model.{Lists, Sound, rule_at}
use Rattle.assignment.specs.declared.Search.{Search}
use Rattle.assignment.specs.Orders.{IsOrder, ValidOrder}
use Rattle.assignment.specs.Audsley.{feasible, problem}
use Rattle.assignment.specs.Search.{index, Holds, Ended}
use Rattle.assignment.specs.Filling.{lowest_at}
use Rattle.assignment.specs.Decision.{filled_count, filled_valid}
use Rattle.assignment.proofs.Preemptive.{lawful, valid_exactly, feasible-order, less-feasible}
use Rattle.subsets.specs.declared.Found.{Found}
use Rattle.subsets.specs.Subsets.{short, subsets}
use Rattle.subsets.proofs.SubsetsLaws.{sets-le}
use Rattle.subsets.specs.Found.{max_orders, task_at_level, order_of, keeping, covered, IsFeasible, Grown, RightlyFound}

-- ---- the order of a search

pub order_length : (n : ℕ) (s : Search) → length (order_of n s) ≡ n
order_length n s = length-table n (task_at_level s)

pub order_at : (n : ℕ) (s : Search) (level : ℕ) → level < n → get_or (order_of n s) level 0 ≡ task_at_level s level
order_at n s level h = get_or-table n (task_at_level s) 0 level h

pub order-lt : (n : ℕ) (s : Search) (level : ℕ) → IsOrder n (order_of n s) → level < n → task_at_level s level < n
order-lt n s level is h = omega (arith, order_at n s level h, is.only level (omega (arith, order_length n s)))

-- with every level filled it is `low`
order_held : (n : ℕ) (low times : List ℕ) (s : Search) → length low ≡ n → Holds n low times s → order_of n s ≡ low
order_held n low times s full holds = ext_get_or 0 (order_of n s) low (order_length n s ∙ sym full) each
  where
    each : (k : ℕ) → k < length (order_of n s) → get_or (order_of n s) k 0 ≡ get_or low k 0
    each k h =
        let inside : k < n = omega (arith, h, order_length n s) in
        let long = length-map low index in
        let at : (n - length (map index low)) + k ≡ k = omega (arith, long, full) in
        order_at n s k inside
        ∙ ap (λ (t : TaskIndex). t.0)
        (ap (λ (ts : List TaskIndex). get_or ts k (index 0)) holds.order
        ∙ rw at at (lowest_at n (index 0) (map index low) k (omega (arith, inside, long, full)))
        ∙ map_at index low k 0 (index 0) (omega (arith, inside, full)))

module _ (l : Lists) (sound : Sound l) (active : ℕ → Bool) (s : Search) (ended : Ended (problem l) active s) (full : s.free ≡ 0) where
  pub found_valid : ValidOrder l active (order_of (length l.tasks) s)
  found_valid =
      let held = ended.searched in
      let long : length held.low ≡ length l.tasks = omega (arith, full, held.holds.free, filled_count (problem l) active held.low held.filled) in
      subst (ValidOrder l active) (sym (order_held (length l.tasks) held.low held.times s long held.holds))
      ((valid_exactly l active held.low).0 (filled_valid (problem l) active held.low held.filled long (lawful l sound)))

  abbrev rules_kept : ℕ → Bool
  rules_kept = keeping l.rules (order_of (length l.tasks) s)

  kept_valid : ValidOrder l rules_kept (order_of (length l.tasks) s)
  kept_valid =
      record {
        is_order = found_valid.is_order;
        keeps = λ k h on. ltb→lt _ _ on;
        meets = found_valid.meets;
      }

  -- the rules that it keeps are feasible
  kept_feasible : length l.rules ≤ short → IsFeasible l (number_of (length l.rules) rules_kept)
  kept_feasible few =
      record {
        in_bounds = omega (arith, number-lt (length l.rules) rules_kept, sets-le (length l.rules) few);
        feasible =
            less-feasible l sound (numbered (number_of (length l.rules) rules_kept)) rules_kept
            (λ k h on. subst (λ (b : Bool). T b) (numbered_number (length l.rules) rules_kept k h) on)
            ((feasible-order l sound rules_kept).1 (order_of (length l.tasks) s, kept_valid));
      }

  -- and among them are those that were active
  pub kept_grown : length l.rules ≤ short → (c : ℕ) → active ≡ numbered c → Grown l c (number_of (length l.rules) rules_kept)
  kept_grown few c same =
      record {
        is_feasible = kept_feasible few;
        has = λ k h on.
            subst (λ (b : Bool). T b) (sym (numbered_number (length l.rules) rules_kept k h))
            (lt→ltb _ _ (found_valid.keeps k h (subst (λ (f : ℕ → Bool). T (f k)) (sym same) on)));
      }

-- one rule more, and what an order keeps then, where there is one
pub grown_next : (l : Lists) (c d x : ℕ) → Grown l c d → (r : Option ℕ) → IfSome r (Grown l (bit_or d x)) → Grown l c (unwrap_or r d)
grown_next l c d x g None more = g
grown_next l c d x g (Some e) more =
    record { is_feasible = more.is_feasible; has = λ k h on. more.has k h (numbered_or d x k (g.has k h on)) }

-- ---- where each task stands

pub level_next : (order : List ℕ) → Distinct order → (levels : List ℕ) (level i : ℕ) → level < length order → get_or order level 0 ≡ i
    → i < length levels → ((k : ℕ) → k < level → get_or levels (get_or order k 0) 0 ≡ k)
    → (k : ℕ) → k < level + 1 → get_or (set levels i level) (get_or order k 0) 0 ≡ k
level_next order distinct levels level i inside at room placed =
    below_more (λ k. get_or (set levels i level) (get_or order k 0) 0 ≡ k) level
    (λ k h. get_or-set_other levels i (get_or order k 0) level 0 (λ e. distinct k level h inside (e ∙ sym at)) ∙ placed k h)
    (ap (λ (j : ℕ). get_or (set levels i level) j 0) at ∙ get_or-set_same levels i level 0 room)

pub level_rank : (n : ℕ) (order levels : List ℕ) → IsOrder n order
    → ((k : ℕ) → k < length order → get_or levels (get_or order k 0) 0 ≡ k) → (i : ℕ) → i < n → get_or levels i 0 ≡ rank order i
level_rank n order levels is placed i h =
    let here = is.every i h in
    ap (λ (j : ℕ). get_or levels j 0) (sym (get_or-rank order i here)) ∙ placed (rank order i) here

-- ---- the number of the rules kept, rule by rule

module _ (n : ℕ) (rules : List Rule) (order levels : List ℕ) (ranked : (i : ℕ) → i < n → get_or levels i 0 ≡ rank order i)
    (k set : ℕ) (between : Between n (rule_at rules k)) (few : k < short) (e : set ≡ number_of k (keeping rules order)) where
  abbrev higher : ℕ
  higher = (rule_at rules k).higher.0

  abbrev lower : ℕ
  lower = (rule_at rules k).lower.0

  abbrev shifted : ℕ
  shifted = 1 * 2 ^ k % 2 ^ 64

  pub kept-fits : set + shifted < 2 ^ 64
  kept-fits = omega (arith, e, number-lt k (keeping rules order), one_shl k 64 (omega arith), sets-le k (omega arith))

  pub kept-more : get_or levels higher 0 < get_or levels lower 0 → set + shifted ≡ number_of (k + 1) (keeping rules order)
  kept-more h =
      let on : keeping rules order k ≡ true = lt-ltb _ _ (rw (ranked higher between.higher, ranked lower between.lower) at h) in
      rw (number_more k (keeping rules order), on) (omega (arith, e, one_shl k 64 (omega arith)))

  pub kept_same : get_or levels lower 0 ≤ get_or levels higher 0 → set ≡ number_of (k + 1) (keeping rules order)
  kept_same h =
      let off : keeping rules order k ≡ false = le-ltb _ _ (rw (ranked higher between.higher, ranked lower between.lower) at h) in
      rw (number_more k (keeping rules order), off) (omega (arith, e))

-- ---- the sets that orders keep, and those that were tried in vain

-- before any trial
pub right_none : (l : Lists) → RightlyFound l (record { kept = replicate max_orders 0; orders = 0; infeasible = replicate subsets false })
right_none l =
    record {
      long = omega (arith, length-replicate {A = ℕ} max_orders 0);
      few = omega arith;
      each = λ i h. absurd (omega (arith, h));
      marks = length-replicate subsets false;
      clash = λ c t. absurd (false→refuted _ (ap (λ (A : ℕ → Bool). A c) (marked-none subsets)) t);
    }

module _ (l : Lists) (sound : Sound l) (f : Found) (some : RightlyFound l f) where
  pub covered_feasible : (c : ℕ) → T (covered f c) → feasible (problem l) (numbered c) ≡ true
  unfolding covered
  covered_feasible c t =
      let front = take f.orders f.kept in
      let is = λ (kept : ℕ). eqb (bit_and c kept) c in
      let (k, h, same) = any_found (length front) (λ k. is (get_or front k 0)) (subst (λ (b : Bool). T b) (list_any-any is front 0) t) in
      let inside : k < f.orders = omega (arith, h, length-take-le f.orders f.kept (omega (arith, some.few, some.long))) in
      let at = get_or-take f.orders f.kept k 0 inside in
      let has = numbered_subset c (get_or f.kept k 0) (rw at at (eqb→eq _ _ same)) in
      T→true _ (less-feasible l sound (numbered c) (numbered (get_or f.kept k 0)) (λ j g. has j) (some.each k inside).feasible)
