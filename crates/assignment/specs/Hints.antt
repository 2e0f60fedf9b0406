-- What spares a search responses, over any test: a task that passed with more tasks above it, here or in another search, passes.
-- Assumes nothing.
use Rattle.std.specs.Prelude.{Option, Some, None, is_some}
use Rattle.std.specs.Prelude.{◌≡◌, Bool, ◌&&◌, List, map, ℕ, ◌+◌, ◌-◌, ◌≤◌, ◌<◌, eqb, length, get_or, set, replicate}
use Rattle.std.proofs.Common.{sym, ap, ◌∙◌, eq-or-lt_of_le, arith, eqb→eq}
use Rattle.std.proofs.Math.Path.{subst}
use Rattle.std.proofs.Math.Bool.{true, false}
use Rattle.std.proofs.Math.Logic.{⊎_elim}
use Rattle.std.proofs.Math.Dec.{T}
use Rattle.std.proofs.lemmas.List.{length-map}
use Rattle.sets.specs.Choice.{pick, true→T, false→refuted}
use Rattle.sets.specs.Bounded.{without, without_still, without_other}
use Rattle.sets.specs.Marks.{marked, marked-none, marked_store, marked-without}
use Rattle.sets.specs.Pad.{map_at}
use Rattle.taskset.specs.declared.TaskIndex.{TaskIndex}
use Rattle.assignment.specs.declared.Search.{Search}
use Rattle.assignment.specs.declared.Hints.{Hints}
use Rattle.assignment.specs.Orders.{no_rule}
use Rattle.assignment.specs.Audsley.{Problem, without_rules, passes, unassigned, Filled, empty, level}
use Rattle.assignment.specs.Decision.{Lawful, may_bare, filled_count, filled_passes, filled_only}
use Rattle.assignment.specs.Search.{index, candidate, AnyOf, lowest, Searched, Known, Helps}
use Rattle.assignment.specs.Filling.{lowest_at}

-- ---- who is known to pass

module _ (p : Problem) where
  pub known_none : (k : ℕ) (left : ℕ → Bool) → Known p left (marked (replicate k false))
  unfolding Known
  known_none k left = subst (Known p left) (sym (marked-none k)) (λ i h t. absurd t)

  -- one task more, which passes where it is marked
  pub known_more : (left : ℕ → Bool) (known : List Bool) (i : ℕ) → i < length known → (b : Bool)
      → b ≡ passes p i (without left i) → Known p left (marked known) → Known p left (marked (set known i b))
  unfolding Known
  known_more left known i h b e all j g t =
      go (eqb i j) (subst (λ (c : Bool). T c) (marked_store known i b h j) t) (eqb→eq i j)
    where
      go : (c : Bool) → T (pick c b (marked known j)) → (T c → i ≡ j) → T (passes p j (without left j))
      go true s at = subst (λ (q : ℕ). T (passes p q (without left q))) (at tt) (subst (λ (c : Bool). T c) e s)
      go false s at = all j g s

  -- fewer left above can't break it
  pub helps_next : Lawful p → (left : List Bool) (i : ℕ) → i < length left → (h : Option Hints) → Helps p (marked left) h
      → Helps p (marked (set left i false)) h
  unfolding Known
  helps_next lawful left i h None helps = tt
  helps_next lawful left i h (Some hints) right =
      let all = marked left in
      record {
        known = rw (marked-without left i h)
            (λ j g t. lawful.fewer j (without (without all i) j) (without all j)
            (λ q b s. let w = without_still (without all i) j q s in without_other all j q w.1 (without_still all i q w.0).0)
            (right.known j g t));
        other = right.other;
      }

  -- a ready task that is known to pass may take the level
  pub known_any : (ready left known : ℕ → Bool) → Known p left known → (i : ℕ) → i < p.tasks → (ready i && known i) ≡ true
      → AnyOf p.tasks (candidate p.test ready left) (Some (record { task = index i; response = 0 }))
  unfolding Known
  known_any ready left known k i h e = (h, go (ready i) (true→T (ready i && known i) e))
    where
      go : (b : Bool) → T (b && known i) → T (is_some (pick b (p.test i (without left i)) None))
      go true t = k i h t
      go false t = absurd t

-- ---- who is furthest down in another search

-- any search, seen without rules
filled_bare : (p : Problem) (active : ℕ → Bool) (low : List ℕ) → Filled p active low → Filled (without_rules p) no_rule low
filled_bare p active all empty = empty
filled_bare p active all (level i low h t f) = level i low h (may_bare p active (unassigned p.tasks low) i t) (filled_bare p active low f)

pub searched_bare : (p : Problem) (active : ℕ → Bool) (s : Search) → Searched p active s → Searched (without_rules p) no_rule s
searched_bare p active s held =
    record { low = held.low; times = held.times; filled = filled_bare p active held.low held.filled; holds = held.holds }

-- of the n levels of an order, none from `deep` down is that of a task left
abbrev pub NoneFrom : ℕ → List TaskIndex → (ℕ → Bool) → ℕ → Type 0
NoneFrom n order left deep = (k : ℕ) → k < n → deep ≤ k → T (left (get_or order k (index 0)).0) → ⊥

module _ (n : ℕ) (order : List TaskIndex) (left : ℕ → Bool) where
  pub none_next : (deep : ℕ) → NoneFrom n order left deep → left (get_or order (deep - 1) (index 0)).0 ≡ false
      → NoneFrom n order left (deep - 1)
  none_next deep none e k h g =
      ⊎_elim
      (λ here. false→refuted (left (get_or order k (index 0)).0) (subst (λ (q : ℕ). left (get_or order q (index 0)).0 ≡ false) here e))
      (λ l. none k h (omega arith)) (eq-or-lt_of_le g)

module _ (p : Problem) (lawful : Lawful p) (active : ℕ → Bool) (s : Search) (held : Searched p active s) where
  abbrev n : ℕ
  n = p.tasks

  abbrev low : List ℕ
  low = held.low

  abbrev task_at_level : ℕ → ℕ
  task_at_level k = (get_or s.order k (index 0)).0

  few : length low ≤ n
  few = omega (arith, filled_count p active low held.filled)

  at_level : (k : ℕ) → k < length low → task_at_level (s.free + k) ≡ get_or low k 0
  at_level k h =
      let indices = map index low in
      let same : s.free ≡ n - length indices = omega (arith, held.holds.free, length-map low index) in
      ap (λ (xs : List TaskIndex). (get_or xs (s.free + k) (index 0)).0) held.holds.order
      ∙ ap (λ (m : ℕ). (get_or (lowest n (index 0) indices) (m + k) (index 0)).0) same
      ∙ ap (λ (t : TaskIndex). t.0)
      (lowest_at n (index 0) indices k (omega (arith, h, length-map low index)) ∙ map_at index low k 0 (index 0) h)

  module _ (deep : ℕ) (here : s.free < deep) (high : deep ≤ n) where
    abbrev q : ℕ
    q = deep - 1 - s.free

    filled : q < length low
    filled = omega (arith, held.holds.free, few)

    same : get_or low q 0 ≡ task_at_level (deep - 1)
    same = let at : s.free + q ≡ deep - 1 = omega arith in sym (at_level q filled) ∙ ap task_at_level at

    pub last_task : task_at_level (deep - 1) < n
    last_task = omega (arith, same, filled_only p active low held.filled q filled)

    -- it passed there with all the others that are left above it, so where it is ready it may take the level
    pub last_any : (ready left : ℕ → Bool) → NoneFrom n s.order left deep → ready (task_at_level (deep - 1)) ≡ true
        → AnyOf n (candidate p.test ready left) (Some (record { task = get_or s.order (deep - 1) (index 0); response = 0 }))
    last_any ready left none e = (
      last_task,
      rw e
          (subst (λ (i : ℕ). T (passes p i (without left i))) same
          (filled_passes p active lawful low held.filled q filled left
          (λ j g b t. none (s.free + j) (omega (arith, b, held.holds.free, few)) (omega arith)
          (subst (λ (i : ℕ). T (left i)) (sym (at_level j b)) t)))),
    )
