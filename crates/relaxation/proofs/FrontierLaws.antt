-- The sets that are still to be looked at: what is taken out, what comes in, and that no set that has an order is lost on the way.
-- Assumes nothing.
use Rattle.std.specs.Prelude.{◌≡◌, refl, Bool, true, false, not, List, ◌⊎◌, ℕ, zero, suc, ◌+◌, ◌-◌, ◌≤◌, ◌<◌, T, leb, ltb, eqb, length, get_or, set}
use Rattle.std.proofs.Common.{sym, ap, subst, ◌∙◌, inl, inr, ⊎_elim, true≢false, not-suc-le-zero, le_refl, eq-zero-or-pos, arith, leb→le, ltb→lt, eqb→eq}
use Rattle.std.proofs.Math.Path.{fun_ext}
use Rattle.std.proofs.lemmas.List.{get_or-set_same, get_or-set_other, length-set}
use Rattle.std.proofs.Math.Nat.{le_step}
use Rattle.std.proofs.Math.Dec.{eqb_refl}
use borrow.Author.Tests.{leb-false, ltb-false}
use Rattle.sets.specs.Choice.{pick, T→true, true→T, false→refuted, not→refuted, refuted→not, decided, lt_or_le}
use Rattle.sets.specs.Bounded.{others, Subset, without, without_still, without_other, below_suc}
use Rattle.sets.specs.Sum.{sum_without, sum_less}
use Rattle.sets.specs.Marks.{marked, marked-without}
use Rattle.taskset.specs.declared.Rule.{Rule}
use Rattle.assignment.specs.Audsley.{Problem, feasible}
use Rattle.assignment.specs.Cores.{IsCore}
use Rattle.assignment.specs.Decision.{feasible_fewer}
use Rattle.relaxation.specs.declared.cores.Cores.{Cores}
use Rattle.relaxation.specs.declared.frontier.Open.{Open}
use Rattle.relaxation.specs.declared.frontier.Frontier.{Frontier}
use Rattle.relaxation.specs.Weights.{weight_at, cost_of, cost_most}
use Rattle.relaxation.specs.Disjoint.{listed_in}
use Rattle.relaxation.specs.Frontier.{max_open, no_open, open_at, FewOpen, foremost, least_of, taken, added, without_rule, child, branched}
use Rattle.relaxation.proofs.Claims.{Relaxable, Remembers, Opens, Fronts, nothing_beside, part_of}

-- ---- the foremost

-- the foremost of the first n sets is one of them, and none of them has a smaller `least`
abbrev IsForemost : Frontier → ℕ → ℕ → Type 0
IsForemost f n k = (k < n) × ((i : ℕ) → i < n → (open_at f k).least ≤ (open_at f i).least)

-- one set more, the first one or a later one
foremost_next : (f : Frontier) (n k : ℕ) → (n ≡ 0) × (k ≡ n) ⊎ IsForemost f n k
    → IsForemost f (suc n) (pick (leb (open_at f n).least (open_at f k).least) n k)
foremost_next f n k is = go (leb (open_at f n).least (open_at f k).least) refl
  where
    go : (c : Bool) → leb (open_at f n).least (open_at f k).least ≡ c → IsForemost f (suc n) (pick c n k)
    go true e =
        let last = leb→le (open_at f n).least (open_at f k).least (true→T _ e) in (
          le_refl (suc n),
          below_suc (λ i. (open_at f n).least ≤ (open_at f i).least) n
              (λ i h. ⊎_elim (λ none. absurd (omega (arith, h, none.0))) (λ was. omega (arith, last, was.1 i h)) is)
              (le_refl (open_at f n).least),
        )
    go false e =
        let more = leb-false (open_at f n).least (open_at f k).least e in
        ⊎_elim (λ none. absurd (omega (arith, more, ap (λ (i : ℕ). (open_at f i).least) none.1)))
        (λ was. (
          le_step was.0,
          below_suc (λ i. (open_at f k).least ≤ (open_at f i).least) n was.1 (omega (arith, more)),
        ))
        is

pub foremost_is : (f : Frontier) (n : ℕ) → 1 ≤ n → IsForemost f n (foremost f n)
unfolding foremost
foremost_is f zero h = absurd (not-suc-le-zero h)
foremost_is f (suc n) h =
    foremost_next f n (foremost f n)
    (⊎_elim (λ z. inl (z, rw z refl)) (λ more. inr (foremost_is f n more)) (eq-zero-or-pos n))

-- two numbers are the same or not
same_or_other : (a b : ℕ) → (a ≡ b) ⊎ (a ≡ b → ⊥)
same_or_other a b =
    ⊎_elim (λ t. inl (eqb→eq a b t)) (λ other. inr (λ e. other (subst (λ (q : ℕ). T (eqb a q)) e (eqb_refl a)))) (decided (eqb a b))

-- ---- one is taken out

module _ (f : Frontier) (few : FewOpen f) (some : 1 ≤ f.n) where
  abbrev out : ℕ
  out = foremost f f.n

  out_below : out < f.n
  out_below = (foremost_is f f.n some).0

  out_room : out < length f.sets
  out_room = omega (arith, out_below, few.few, few.size)

  -- what is left was there
  taken_old : (i : ℕ) → i < f.n - 1 → (j : ℕ) × (j < f.n) × (open_at (taken f) i ≡ open_at f j)
  unfolding taken
  taken_old i h = ⊎_elim at_out other (same_or_other out i)
    where
      at_out : out ≡ i → (j : ℕ) × (j < f.n) × (open_at (taken f) i ≡ open_at f j)
      at_out e = (
        f.n - 1,
        omega (arith, some),
        subst (λ (q : ℕ). get_or (set f.sets out (open_at f (f.n - 1))) q no_open ≡ open_at f (f.n - 1)) e
            (get_or-set_same f.sets out (open_at f (f.n - 1)) no_open out_room),
      )

      other : (out ≡ i → ⊥) → (j : ℕ) × (j < f.n) × (open_at (taken f) i ≡ open_at f j)
      other apart = (i, omega (arith, h), get_or-set_other f.sets out i (open_at f (f.n - 1)) no_open (λ e. apart (sym e)))

  -- and what was there is left, or is the one that was taken
  taken_new : (i : ℕ) → i < f.n → (out ≡ i → ⊥) → (j : ℕ) × (j < f.n - 1) × (open_at (taken f) j ≡ open_at f i)
  unfolding taken
  taken_new i h apart = ⊎_elim at_last other (same_or_other i (f.n - 1))
    where
      at_last : i ≡ f.n - 1 → (j : ℕ) × (j < f.n - 1) × (open_at (taken f) j ≡ open_at f i)
      at_last e = (
        out,
        ⊎_elim (λ l. l) (λ g. absurd (apart (omega (arith, g, e, out_below)))) (lt_or_le out (f.n - 1)),
        get_or-set_same f.sets out (open_at f (f.n - 1)) no_open out_room ∙ ap (open_at f) (sym e),
      )

      other : (i ≡ f.n - 1 → ⊥) → (j : ℕ) × (j < f.n - 1) × (open_at (taken f) j ≡ open_at f i)
      other before = (
        i,
        ⊎_elim (λ l. l) (λ g. absurd (before (omega (arith, g, h)))) (lt_or_le i (f.n - 1)),
        get_or-set_other f.sets out i (open_at f (f.n - 1)) no_open (λ e. apart (sym e)),
      )

  pub few_taken : FewOpen (taken f)
  unfolding taken
  few_taken =
      record {
        few = omega (arith, few.few);
        size = length-set f.sets out (open_at f (f.n - 1)) ∙ few.size;
        costs = λ i h. let j = taken_old i h in subst (λ (o : Open). o.cost ≤ cost_most) (sym j.2) (few.costs j.0 j.1);
      }

-- ---- one comes in

module _ (f : Frontier) (o : Open) where
  -- there is room for it, or there is not
  abbrev with_one : Frontier
  with_one = record { sets = set f.sets f.n o; n = f.n + 1; full = f.full }

  abbrev without_room : Frontier
  without_room = record { sets = f.sets; n = f.n; full = true }

  by_room : (P : Frontier → Type 0) → (f.n < max_open → P with_one) → P without_room → P (added f o)
  unfolding added
  by_room P room full = go (ltb f.n max_open) refl
    where
      go : (b : Bool) → ltb f.n max_open ≡ b → P (pick b with_one without_room)
      go true e = room (ltb→lt f.n max_open (true→T _ e))
      go false e = full

  module _ (few : FewOpen f) (room : f.n < max_open) where
    with_old : (i : ℕ) → i < f.n → open_at with_one i ≡ open_at f i
    with_old i h = get_or-set_other f.sets f.n i o no_open (λ e. omega (arith, e, h))

    with_new : open_at with_one f.n ≡ o
    with_new = get_or-set_same f.sets f.n o no_open (omega (arith, room, few.size))

    -- what holds of each that was there, and of the one that comes in
    with_each : (P : Open → Type 0) → ((i : ℕ) → i < f.n → P (open_at f i)) → P o → (i : ℕ) → i < f.n + 1 → P (open_at with_one i)
    with_each P old new i h =
        ⊎_elim (λ l. subst P (sym (with_old i l)) (old i l))
        (λ g. let e : f.n ≡ i = omega (arith, g, h) in subst (λ (q : ℕ). P (open_at with_one q)) e (subst P (sym with_new) new))
        (lt_or_le i f.n)

    few_with : o.cost ≤ cost_most → FewOpen with_one
    few_with cheap =
        record {
          few = omega (arith, room);
          size = length-set f.sets f.n o ∙ few.size;
          costs = with_each (λ q. q.cost ≤ cost_most) few.costs cheap;
        }

  pub few_added : FewOpen f → o.cost ≤ cost_most → FewOpen (added f o)
  few_added few cheap =
      by_room FewOpen (λ room. few_with few room cheap) (record { few = few.few; size = few.size; costs = few.costs })

module _ (rules : List Rule) (c : Cores) (limit : ℕ) (o : Open) where
  -- a set without one of its rules comes in, or costs as much as the limit
  by_cost : (P : Frontier → Type 0) (f : Frontier) (k : ℕ)
      → ((without_rule rules c limit o k).least < limit → P (added f (without_rule rules c limit o k)))
      → (limit ≤ (without_rule rules c limit o k).least → P f) → P (child rules c limit o f k)
  unfolding child
  by_cost P f k less more = go (ltb (without_rule rules c limit o k).least limit) refl
    where
      go : (b : Bool) → ltb (without_rule rules c limit o k).least limit ≡ b → P (pick b (added f (without_rule rules c limit o k)) f)
      go true e = less (ltb→lt (without_rule rules c limit o k).least limit (true→T _ e))
      go false e = more (ltb-false (without_rule rules c limit o k).least limit e)

-- ---- what no set costs less than

-- no set within the rules kept that has an order costs less than what these cost with the least weights of the cores listed in them
abbrev pub ListedFloor : Problem → Type 0
ListedFloor p = (c : Cores) → Remembers p c → (kept : ℕ → Bool) → (n : ℕ) → n ≤ c.n → (K : ℕ → Bool) → T (feasible p K)
    → Subset (length p.rules) K kept → cost_of p.rules kept + (listed_in p.rules c.sets kept n).least ≤ cost_of p.rules K

-- a rule that is given up is one that was kept, and no other
others-without : (A : ℕ → Bool) (k : ℕ) → T (A k) → without (others (without A k)) k ≡ others A
others-without A k t = fun_ext (λ j. go j (eqb k j) refl)
  where
    go : (j : ℕ) (b : Bool) → eqb k j ≡ b → pick b false (not (pick b false (A j))) ≡ not (A j)
    go j true e = rw (T→true (A j) (subst (λ (q : ℕ). T (A q)) (eqb→eq k j (true→T (eqb k j) e)) t)) refl
    go j false e = refl

-- giving up a rule costs its weight more
cost_without : (rules : List Rule) (A : ℕ → Bool) (k : ℕ) → k < length rules → T (A k)
    → cost_of rules (without A k) ≡ cost_of rules A + weight_at rules k
cost_without rules A k h t =
    let given_up : T (others (without A k) k) = rw (T→true (eqb k k) (eqb_refl k)) tt in
    sym (rw (others-without A k t) at (sum_without (length rules) (others (without A k)) (weight_at rules) k h given_up))

-- and putting one back costs less, where each weighs something
pub more_cost : (rules : List Rule) (kept : ℕ → Bool) → ((k : ℕ) → k < length rules → 1 ≤ weight_at rules k) → (k : ℕ) → k < length rules
    → (T (kept k) → ⊥) → (K : ℕ → Bool) → Subset (length rules) kept K → T (K k) → cost_of rules K < cost_of rules kept
more_cost rules kept weights k h out K more there =
    let less =
    sum_less (length rules) (others K) (others kept) (weight_at rules)
    (λ j g t. refuted→not (kept j) (λ s. not→refuted (K j) t (more j g s)))
    k h (refuted→not (kept k) out) (λ t. not→refuted (K k) t there) in
    let weight = weights k h in
    omega (arith, less, weight)

module _ (p : Problem) (fit : Relaxable p) where
  abbrev m : ℕ
  m = length p.rules

  -- ---- one is taken out

  module _ (f : Frontier) (limit : ℕ) (fronts : Fronts p f limit (nothing_beside p)) (some : 1 ≤ f.n) where
    foremost_below : foremost f f.n < f.n
    foremost_below = (foremost_is f f.n some).0

    -- a set that has an order and costs less than the limit costs at least as much as the foremost
    pub least_floor : f.full ≡ false → (K : ℕ → Bool) → T (feasible p K) → cost_of p.rules K < limit
        → (least_of f).least ≤ cost_of p.rules K
    least_floor room K works cheap =
        ⊎_elim (λ none. absurd none)
        (λ i.
        let light = (foremost_is f f.n some).1 i.0 i.1 in
        let floor = (fronts.each i.0 i.1).floor K works i.2 in
        omega (arith, light, floor))
        (fronts.covers room K works cheap)

    -- it is right, costs less than the limit, and only its parts are beside what is left
    pub taken_fronts : Opens p (least_of f) × ((least_of f).least < limit) × Fronts p (taken f) limit (part_of p (least_of f))
    unfolding taken
    taken_fronts = (
      fronts.each (foremost f f.n) foremost_below,
      fronts.less (foremost f f.n) foremost_below,
      record {
        few = few_taken f fronts.few some;
        each = λ i h. let j = taken_old f fronts.few some i h in subst (Opens p) (sym j.2) (fronts.each j.0 j.1);
        less = λ i h. let j = taken_old f fronts.few some i h in subst (λ (o : Open). o.least < limit) (sym j.2) (fronts.less j.0 j.1);
        covers = λ room K works cheap.
            ⊎_elim (λ none. absurd none) (λ i. covered K i.0 i.1 i.2 (same_or_other (foremost f f.n) i.0)) (fronts.covers room K works cheap);
      },
    )
      where
        covered : (K : ℕ → Bool) (i : ℕ) → i < f.n → Subset (length p.rules) K (marked (open_at f i).kept)
            → (foremost f f.n ≡ i) ⊎ (foremost f f.n ≡ i → ⊥)
            → part_of p (least_of f) K ⊎ ((j : ℕ) × (j < (taken f).n) × Subset (length p.rules) K (marked (open_at (taken f) j).kept))
        covered K i h part is =
            ⊎_elim (λ e. inl (subst (λ (q : ℕ). Subset (length p.rules) K (marked (open_at f q).kept)) (sym e) part))
            (λ apart.
            let j = taken_new f fronts.few some i h apart in
            inr (j.0, j.1, subst (λ (o : Open). Subset (length p.rules) K (marked o.kept)) (sym j.2) part))
            is

  -- ---- one comes in

  -- what is beside may be said otherwise
  fronts_beside : (f : Frontier) (limit : ℕ) (A B : (ℕ → Bool) → Type 0) → ((K : ℕ → Bool) → T (feasible p K) → A K → B K)
      → Fronts p f limit A → Fronts p f limit B
  fronts_beside f limit A B so fronts =
      record {
        few = fronts.few;
        each = fronts.each;
        less = fronts.less;
        covers = λ room K works cheap. ⊎_elim (λ a. inl (so K works a)) (λ i. inr i) (fronts.covers room K works cheap);
      }

  -- a set comes in, and what is beside is part of it or beside the others
  added_fronts : (f : Frontier) (o : Open) (limit : ℕ) (A B : (ℕ → Bool) → Type 0) → Opens p o → o.least < limit → limit ≤ cost_most
      → ((K : ℕ → Bool) → T (feasible p K) → A K → B K ⊎ part_of p o K) → Fronts p f limit A → Fronts p (added f o) limit B
  added_fronts f o limit A B opens less small so fronts =
      by_room f o (λ g. Fronts p g limit B) room
      (record {
        few = record { few = fronts.few.few; size = fronts.few.size; costs = fronts.few.costs };
        each = fronts.each;
        less = fronts.less;
        covers = λ none. absurd (true≢false none);
      })
    where
      room : f.n < max_open → Fronts p (with_one f o) limit B
      room h =
          record {
            few = few_with f o fronts.few h (omega (arith, opens.more, less, small));
            each = with_each f o fronts.few h (Opens p) fronts.each opens;
            less = with_each f o fronts.few h (λ q. q.least < limit) fronts.less less;
            covers = λ space K works cheap.
                ⊎_elim
                (λ a.
                ⊎_elim (λ b. inl b)
                (λ part.
                inr
                (f.n, omega arith, subst (λ (q : Open). Subset (length p.rules) K (marked q.kept)) (sym (with_new f o fronts.few h)) part))
                (so K works a))
                (λ i.
                inr (
                  i.0,
                  omega (arith, i.1),
                  subst (λ (q : Open). Subset (length p.rules) K (marked q.kept)) (sym (with_old f o fronts.few h i.0 i.1)) i.2,
                ))
                (fronts.covers space K works cheap);
          }

  module _ (listed_floor : ListedFloor p) (c : Cores) (remembers : Remembers p c) (limit : ℕ) (o : Open) (opens : Opens p o) where
    abbrev less : ℕ → Open
    less = without_rule p.rules c limit o

    -- a set without one of its rules is right too
    module _ (k : ℕ) (h : k < length p.rules) (t : T (marked o.kept k)) where
      less_marked : marked (less k).kept ≡ without (marked o.kept) k
      less_marked = marked-without o.kept k (omega (arith, h, fit.few, opens.long))

      less_cost : (less k).cost ≡ cost_of p.rules (marked (less k).kept)
      less_cost = rw (less_marked, cost_without p.rules (marked o.kept) k h t, ← opens.cost) refl

      less_within : (j : ℕ) → T (marked (less k).kept j) → T (marked o.kept j)
      less_within j s = (without_still (marked o.kept) k j (subst (λ (A : ℕ → Bool). T (A j)) less_marked s)).0

      opens_without : Opens p (less k)
      opens_without =
          record {
            long = length-set o.kept k false ∙ opens.long;
            inside = λ j s. opens.inside j (less_within j s);
            cost = less_cost;
            more = omega arith;
            floor = λ K works part.
                let floor = listed_floor c remembers (marked (less k).kept) c.n (le_refl c.n) K works part in
                let before = opens.floor K works (λ j l s. less_within j (part j l s)) in
                omega (arith, floor, less_cost, before);
          }

      -- what is part of the set and lacks the rule is part of it
      part_without : (K : ℕ → Bool) → part_of p o K → (T (K k) → ⊥) → part_of p (less k) K
      part_without K part lacks j l s =
          subst (λ (A : ℕ → Bool). T (A j)) (sym less_marked)
          (without_other (marked o.kept) k j (λ e. lacks (subst (λ (q : ℕ). T (K q)) (sym e) s)) (part j l s))

    module _ (core : ℕ → Bool) (whole : Subset (length p.rules) core (marked o.kept)) (small : limit ≤ cost_most) (f : Frontier) where
      -- what is still beside after the first n rules: the parts that keep those of them that are in the core
      abbrev keeps : ℕ → (ℕ → Bool) → Type 0
      keeps n K = part_of p o K × Subset n core K

      kept_next : (n : ℕ) → n < length p.rules → (b : Bool) → core n ≡ b → (F : Frontier) → Fronts p F limit (keeps n)
          → Fronts p (pick b (child p.rules c limit o F n) F) limit (keeps (suc n))
      kept_next n h false e F fronts =
          fronts_beside F limit (keeps n) (keeps (suc n))
          (λ K works k. (k.0, below_suc (λ j. T (core j) → T (K j)) n k.1 (λ t. absurd (false→refuted (core n) e t))))
          fronts
      kept_next n h true e F fronts = by_cost p.rules c limit o (λ g. Fronts p g limit (keeps (suc n))) F n comes dear
        where
          right : Opens p (less n)
          right = opens_without n h (whole n h (true→T (core n) e))

          -- it keeps the rule too, or is part of the set without it
          splits : (K : ℕ → Bool) → keeps n K → keeps (suc n) K ⊎ part_of p (less n) K
          splits K k =
              ⊎_elim (λ t. inl (k.0, below_suc (λ j. T (core j) → T (K j)) n k.1 (λ s. t)))
              (λ lacks. inr (part_without n h (whole n h (true→T (core n) e)) K k.0 lacks)) (decided (K n))

          comes : (less n).least < limit → Fronts p (added F (less n)) limit (keeps (suc n))
          comes cheap =
              added_fronts F (less n) limit (keeps n) (keeps (suc n)) right cheap small (λ K works k. splits K k) fronts

          -- where it costs as much as the limit, so does each of its parts
          dear : limit ≤ (less n).least → Fronts p F limit (keeps (suc n))
          dear more =
              record {
                few = fronts.few;
                each = fronts.each;
                less = fronts.less;
                covers = λ room K works cheap.
                    ⊎_elim
                    (λ k.
                    ⊎_elim (λ b. inl b) (λ part. let floor = right.floor K works part in absurd (omega (arith, floor, more, cheap)))
                    (splits K k))
                    (λ i. inr i)
                    (fronts.covers room K works cheap);
              }

      kept_after : Fronts p f limit (part_of p o) → (n : ℕ) → n ≤ length p.rules
          → Fronts p (branched p.rules c limit o core f n) limit (keeps n)
      unfolding branched
      kept_after fronts zero h =
          fronts_beside f limit (part_of p o) (keeps zero) (λ K works part. (part, λ j l. absurd (not-suc-le-zero l))) fronts
      kept_after fronts (suc n) h =
          kept_next n h (core n) refl (branched p.rules c limit o core f n) (kept_after fronts n (omega (arith, h)))

      -- no set that has an order keeps the whole core, so nothing is beside in the end
      pub branched_fronts : IsCore p core → Fronts p f limit (part_of p o)
          → Fronts p (branched p.rules c limit o core f (length p.rules)) limit (nothing_beside p)
      branched_fronts is fronts =
          fronts_beside (branched p.rules c limit o core f (length p.rules)) limit (keeps (length p.rules)) (nothing_beside p)
          (λ K works k. is.clash (feasible_fewer p core K k.1 fit.lawful works))
          (kept_after fronts (length p.rules) (le_refl (length p.rules)))
