-- That the answer says what a sceptic asks of it: the tests that the search makes are his orders, and what it keeps, its floor and its
-- cores are what he wants. Of the table's search it takes what `Tabled` says. Assumes nothing.
use Rattle.std.specs.Prelude.{Option, Some, None, Result, Ok, Err, ◌≡◌, refl, Bool, true, false, ◌&&◌, not, ◌⊎◌, ℕ, ◌*◌, ◌^◌, ◌≤◌, ◌<◌, T, max, leb, ltb, eqb, length, set}
use Rattle.std.specs.Ordering.{is_le, nat_cmp}
use Rattle.std.proofs.Common.{sym, ap, subst, ◌∙◌, inl, inr, ⊎_elim, le_refl, arith, eqb→eq, eq-eqb, leb→le, le→leb, ltb→lt, lt→ltb}
use Rattle.std.proofs.Math.Bool.{not-not}
use borrow.Author.Tests.{ltb-false, eqb-false}
use Rattle.sets.specs.Choice.{pick, true→T, refuted→false, false→refuted, not→refuted, refuted→not, and_intro, and_left, and_right, or_elim, or_false_left, or_false_right, decided, lt_or_le}
use Rattle.sets.specs.Bounded.{every, others, Subset, without, without_still}
use Rattle.sets.specs.Pad.{pad_used, pad-rest}
use Rattle.sets.specs.Sum.{sum_same}
use Rattle.sets.specs.Marks.{first, marked, table, length-table, get_or-table}
use Rattle.sets.specs.Numbered.{numbered}
use Rattle.taskset.specs.declared.TaskSet.{TaskSet}
use Rattle.taskset.specs.declared.refusals.Refusal.{Refusal}
use Rattle.taskset.specs.declared.refusals.Refusal.TheVariants.{NoTasks, Budget}
use Rattle.taskset.specs.Refusals.{max_rules, outside}
use Rattle.taskset.specs.Model.{Lists, Sound}
use Rattle.taskset.specs.Adding.{is_made, lists, Made}
use Rattle.taskset.specs.Exact.{made_sound, made_passes}
use Rattle.taskset.specs.ChangingLaws.{on_made_lists}
use Rattle.assignment.specs.Orders.{no_rule, Works}
use Rattle.assignment.specs.Audsley.{Problem, feasible, problem}
use Rattle.assignment.specs.Cores.{IsCore, rules_in}
use Rattle.assignment.proofs.Preemptive.{lawful, feasible-order, less-feasible}
use Rattle.assignment.proofs.CoreOrders.{rules_in_was, order_from, core_found, found_core}
use Rattle.subsets.specs.Subsets.{short, subsets, feasible_set}
use Rattle.subsets.proofs.SubsetsLaws.{sets-le}
use Rattle.verdict.specs.Core.{by_place, core_of}
use Rattle.verdict.specs.CoreLaws.{first_below, place_turn, cut_is_core}
use Rattle.relaxation.specs.declared.Relaxation.{Relaxation}
use Rattle.relaxation.specs.declared.Relaxed.{Relaxed}
use Rattle.relaxation.specs.declared.cores.DisjointCores.{DisjointCores}
use Rattle.relaxation.specs.declared.explore.Exploring.{Exploring}
use Rattle.relaxation.specs.Weights.{weight_at, weight_of, cost_of}
use Rattle.relaxation.specs.Restoring.{max_budget}
use Rattle.relaxation.specs.Disjoint.{listed_in}
use Rattle.relaxation.specs.Exploring.{explored}
use Rattle.relaxation.specs.Table.{cost_at, cheapest, cores_listed}
use Rattle.relaxation.specs.Relaxing.{dropped_of, none_relaxed, tabled_relaxation, explored_relaxation, relaxed_within, relaxing_on, relaxing}
use Rattle.relaxation.specs.Relaxes.{in_core, Relieves, Relaxes}
use Rattle.relaxation.proofs.Claims.{Relaxable, ListsCores, IsFloor, Explores}
use Rattle.relaxation.proofs.TableSteps.{tabled_whole}
use Rattle.relaxation.proofs.TableLaws.{cheapest_is, cores_lists, cores_floor, cores_meet}
use Rattle.relaxation.proofs.DisjointLaws.{number, listed_lists, listed_first, listed_first_floor}
use Rattle.relaxation.proofs.FrontierLaws.{more_cost}
use Rattle.relaxation.proofs.RestoringLaws.{marked_was}
use Rattle.relaxation.proofs.ExploringSteps.{relaxable}
use Rattle.relaxation.proofs.ExploredSteps.{all_explored}

-- ---- the marks of the rules that are dropped

module _ (m : ℕ) (kept : ℕ → Bool) where
  abbrev dropped : ℕ → Bool
  dropped = marked (dropped_of m kept)

  -- of the first m those that are not kept, and no others
  dropped_at : (k : ℕ) → k < m → dropped k ≡ not (kept k)
  dropped_at k h =
      pad_used max_rules false (table m (others kept)) k (omega (arith, h, length-table m (others kept)))
      ∙ get_or-table m (others kept) false k h

  dropped_past : (k : ℕ) → m ≤ k → dropped k ≡ false
  dropped_past k h = pad-rest max_rules false (table m (others kept)) k (omega (arith, h, length-table m (others kept)))

  dropped_below : (k : ℕ) → T (dropped k) → k < m
  dropped_below k t = ⊎_elim (λ l. l) (λ g. absurd (false→refuted (dropped k) (dropped_past k g) t)) (lt_or_le k m)

  dropped_out : (k : ℕ) → T (dropped k) → T (kept k) → ⊥
  dropped_out k t = not→refuted (kept k) (subst T (dropped_at k (dropped_below k t)) t)

  dropped_in : (k : ℕ) → k < m → (T (kept k) → ⊥) → T (dropped k)
  dropped_in k h out = subst T (sym (dropped_at k h)) (refuted→not (kept k) out)

-- a rule that is not in what is left of a set, and one that is
others_in : (A : ℕ → Bool) (k : ℕ) → (T (A k) → ⊥) → T (others A k)
others_in A k = refuted→not (A k)

others_out : (A : ℕ → Bool) (k : ℕ) → T (others A k) → T (A k) → ⊥
others_out A k = not→refuted (A k)

-- ---- what is relaxed_by, where these are kept

module _ (l : Lists) (sound : Sound l) where
  module _ (kept : ℕ → Bool) (works : T (feasible (problem l) kept)) (floor : ℕ) (is_floor : IsFloor (problem l) floor) (s : DisjointCores)
      (is : ListsCores (problem l) s) (least : s.least ≤ floor) where
    abbrev given : ℕ → Bool
    given = marked (dropped_of (length l.rules) kept)

    -- the rules beside those that are dropped are kept
    beside_kept : Subset (length l.rules) (others given) kept
    beside_kept k h t =
        ⊎_elim (λ s. s) (λ out. absurd (others_out given k t (dropped_in (length l.rules) kept k h out))) (decided (kept k))

    kept_beside : (k : ℕ) → T (kept k) → T (others given k)
    kept_beside k t = others_in given k (λ g. dropped_out (length l.rules) kept k g t)

    weight_is : cost_of l.rules kept ≡ weight_of l.rules given
    weight_is =
        sum_same (length l.rules) (others kept) given (weight_at l.rules) (weight_at l.rules)
        (λ k h. sym (dropped_at (length l.rules) kept k h)) (λ k h. refl)

    floor_under : (X : ℕ → Bool) → Works l X → floor ≤ weight_of l.rules X
    floor_under X o =
        let under = is_floor (others X) ((feasible-order l sound (others X)).1 o) in
        let same =
        sum_same (length l.rules) (others (others X)) X (weight_at l.rules) (weight_at l.rules) (λ k h. not-not (X k)) (λ k h. refl) in
        omega (arith, under, same)

    members_below : (k : ℕ) → 1 ≤ number s k → k < length l.rules
    members_below k some =
        (is.core (number s k) some (is.numbers k)).inside k (true→T (in_core s.numbers (number s k) k) (eq-eqb (number s k) (number s k) refl))

    abbrev More : Type 0
    More = (k : ℕ) → k < length l.rules → (T (kept k) → ⊥) → (K : ℕ → Bool) → Subset (length l.rules) kept K → T (K k)
        → T (feasible (problem l) K) → ⊥

    module _ (budget count : ℕ) (within : count ≤ budget) (back : length l.rules < budget → More)
        (some : 2 * length l.rules < budget → (k : ℕ) → k < length l.rules → (T (kept k) → ⊥) → 1 ≤ s.ncores)
        (exact : length l.rules ≤ 12 → 4_096 ≤ budget → floor ≡ cost_of l.rules kept)
        (meets : length l.rules ≤ 12 → 4_096 ≤ budget → (A : ℕ → Bool) → IsCore (problem l) A
        → (i : ℕ) × (i < length l.rules) × T (A i) × (number s i ≡ 0 → ⊥)) where
      abbrev answer : Relaxation
      answer =
          record {
            dropped = dropped_of (length l.rules) kept;
            weight = cost_of l.rules kept;
            floor = floor;
            cores = s.numbers;
            ncores = s.ncores;
          }

      pub relieves_answered : Relieves l budget answer count
      relieves_answered =
          record {
            rules = dropped_below (length l.rules) kept;
            works = order_from l sound (others given) kept beside_kept works;
            weight = weight_is;
            floor = floor_under;
            cores = λ j low high. core_found l sound (in_core s.numbers j) (is.core j low high);
            listed = λ j low high. let r = is.some j low high in (r.0, r.1, true→T (in_core s.numbers j r.0) (eq-eqb (number s r.0) j r.2));
            numbers = is.numbers;
            members = members_below;
            apart = λ i j k a b. sym (eqb→eq (number s k) i a) ∙ eqb→eq (number s k) j b;
            least = omega (arith, least, is.least);
            back = λ reaches k t o.
                back reaches k (dropped_below (length l.rules) kept k t) (dropped_out (length l.rules) kept k t) (others (without given k))
                (λ j h i. others_in (without given k) j (λ w. others_out given j (kept_beside j i) (without_still given k j w).0))
                (others_in (without given k) k (λ w. (without_still given k k w).1 refl))
                ((feasible-order l sound (others (without given k))).1 o);
            some = λ reaches k t. some reaches k (dropped_below (length l.rules) kept k t) (dropped_out (length l.rules) kept k t);
            exact = exact;
            meets = λ few enough A core k h t.
                let r = meets few enough (rules_in (problem l) A) (found_core l sound A core) in
                (r.0, r.1, rules_in_was (problem l) A r.0 r.2, ⊎_elim (λ l. absurd (r.3 (omega (arith, l)))) (λ g. g) (lt_or_le (number s r.0) 1));
            within = within;
          }

-- ---- what an exploration gives

module _ (l : Lists) (sound : Sound l) (hopeful : T (feasible (problem l) no_rule)) (budget : ℕ) (some : 1 ≤ budget)
    (long : length l.rules ≤ 12 → 4_096 ≤ budget → ⊥) where
  abbrev fit : Relaxable (problem l)
  fit = relaxable l sound hopeful

  weighs : (k : ℕ) → k < length l.rules → 1 ≤ weight_at l.rules k
  weighs k h = (sound.weights k h).least

  abbrev end : Exploring
  end = explored (problem l) budget

  abbrev cores : DisjointCores
  cores = listed_in l.rules end.cores.sets (first (length l.rules)) end.cores.n

  explores : Explores (problem l) budget end
  explores = all_explored l sound hopeful budget some

  no_more : length l.rules < budget → (k : ℕ) → k < length l.rules → (T (marked end.kept k) → ⊥) → (K : ℕ → Bool)
      → Subset (length l.rules) (marked end.kept) K → T (K k) → T (feasible (problem l) K) → ⊥
  no_more reaches k h out K more there t =
      let room : k < length end.kept = omega (arith, h, sound.few_rules, explores.hand.long) in
      explores.hand.done reaches k h (refuted→false (marked end.kept k) out)
      (less-feasible l sound (marked (set end.kept k true)) K
      (λ j g s. ⊎_elim (λ e. subst (λ (i : ℕ). T (K i)) e there) (more j g) (marked_was end.kept k room j s))
      t)

  some_listed : 2 * length l.rules < budget → (k : ℕ) → k < length l.rules → (T (marked end.kept k) → ⊥) → 1 ≤ cores.ncores
  some_listed reaches k h out =
      let dear = more_cost l.rules (marked end.kept) weighs k h out every (λ j g s. tt) tt in
      listed_first l.rules end.cores.sets (first (length l.rules)) (λ j g. lt→ltb j (length l.rules) g) end.cores.n
      (explores.found reaches (omega (arith, dear, explores.hand.cost)))

  explored_floor : IsFloor (problem l) (max end.floor cores.least)
  explored_floor K t =
      let one = explores.floor K t in
      let other = listed_first_floor (problem l) fit end.cores explores.remembers end.cores.n (le_refl end.cores.n) K t in
      omega (arith, one, other)

  pub explored_relieves : Relieves l budget
      (record {
        dropped = dropped_of (length l.rules) (marked end.kept);
        weight = cost_of l.rules (marked end.kept);
        floor = max end.floor cores.least;
        cores = cores.numbers;
        ncores = cores.ncores;
      })
      end.count
  explored_relieves =
      relieves_answered l sound (marked end.kept) explores.hand.works (max end.floor cores.least) explored_floor cores
      (listed_lists (problem l) fit end.cores explores.remembers (first (length l.rules)) end.cores.n (le_refl end.cores.n))
      (omega arith) budget end.count explores.count no_more some_listed (λ few enough. absurd (long few enough))
      (λ few enough. absurd (long few enough))

-- ---- what the table gives

-- of the search through all sets of at most 12 rules: the cheapest one that has an order, and cores that share no rule and that each
-- other core meets
pub record Tabled (p : Problem) : Type 0 where
  pub works : T (feasible_set p (cheapest p (feasible_set p) (2 ^ length p.rules)))
  pub least : (K : ℕ → Bool) → T (feasible p K) → cost_at p (cheapest p (feasible_set p) (2 ^ length p.rules)) ≤ cost_of p.rules K
  pub lists : ListsCores p (cores_listed p (feasible_set p) (2 ^ length p.rules))
  pub floor : IsFloor p (cores_listed p (feasible_set p) (2 ^ length p.rules)).least
  pub meets : (A : ℕ → Bool) → IsCore p A
      → (k : ℕ) × (k < length p.rules) × T (A k) × (number (cores_listed p (feasible_set p) (2 ^ length p.rules)) k ≡ 0 → ⊥)

module _ (l : Lists) (sound : Sound l) (tables : Tabled (problem l)) (few : length l.rules ≤ 12) (budget : ℕ)
    (enough : 4_096 ≤ budget) where
  abbrev all_sets : ℕ
  all_sets = 2 ^ length l.rules

  abbrev best : ℕ → Bool
  best = numbered (cheapest (problem l) (feasible_set (problem l)) all_sets)

  abbrev found : DisjointCores
  found = cores_listed (problem l) (feasible_set (problem l)) all_sets

  heavy : (k : ℕ) → k < length l.rules → 1 ≤ weight_at l.rules k
  heavy k h = (sound.weights k h).least

  sets_within : all_sets ≤ budget
  sets_within = omega (arith, sets-le (length l.rules) few, enough)

  best_back : (k : ℕ) → k < length l.rules → (T (best k) → ⊥) → (K : ℕ → Bool) → Subset (length l.rules) best K → T (K k)
      → T (feasible (problem l) K) → ⊥
  best_back k h out K more there t =
      let dear = more_cost l.rules best heavy k h out K more there in
      let least = tables.least K t in
      absurd (omega (arith, dear, least))

  -- the core that is cut out of all rules, where they have no order
  abbrev cut : ℕ → Bool
  cut = core_of (feasible (problem l)) (length l.rules)

  cut_core : (T (feasible (problem l) (first (length l.rules))) → ⊥) → IsCore (problem l) cut
  cut_core =
      cut_is_core (problem l) (lawful l sound) by_place (first (length l.rules)) (first_below (length l.rules)) (place_turn (length l.rules))

  best_some : (k : ℕ) → k < length l.rules → (T (best k) → ⊥) → 1 ≤ found.ncores
  best_some k h out =
      let core =
      cut_core
      (best_back k h out (first (length l.rules)) (λ j g t. lt→ltb j (length l.rules) g) (lt→ltb k (length l.rules) h)) in
      let r = tables.meets cut core in
      ⊎_elim (λ low. absurd (r.3 (omega (arith, low, tables.lists.numbers r.0)))) (λ g. g) (lt_or_le found.ncores 1)

  pub tabled_relieves : Relieves l budget
      (record {
        dropped = dropped_of (length l.rules) best;
        weight = cost_of l.rules best;
        floor = cost_of l.rules best;
        cores = found.numbers;
        ncores = found.ncores;
      })
      all_sets
  tabled_relieves =
      relieves_answered l sound best tables.works (cost_of l.rules best) tables.least found tables.lists
      (tables.floor best tables.works) budget all_sets sets_within (λ reaches. best_back) (λ reaches. best_some) (λ low high. refl)
      (λ low high. tables.meets)

-- ---- of all lists

ok_same : (a b : Relaxed) → ◌≡◌ {A = Result Relaxed Refusal} (Ok a) (Ok b) → a ≡ b
ok_same a b e = cc

none_some : (a : Relaxation) (n : ℕ) → ◌≡◌ {A = Result Relaxed Refusal} (Ok (record { relaxation = Some a; count = n })) (Ok none_relaxed) → ⊥
none_some a n e =
    let gone : ◌≡◌ {A = Option Relaxation} (Some a) None =
    ap (λ (r : Relaxed). r.relaxation) (ok_same (record { relaxation = Some a; count = n }) none_relaxed e) in
    cc

-- the refusals, and what each of them says
no_tasks_tells : (l : Lists) → (budget : ℕ) → length l.tasks ≡ 0 → Relaxes l budget (Err NoTasks)
no_tasks_tells l budget none =
    record {
      no_tasks = (λ e. none, λ z. refl);
      no_budget = (λ e. cc, λ h. absurd (omega (arith, none, h.0)));
      one = inl refl;
      none = λ some. absurd (omega (arith, none, some));
      gives = λ a n e. cc;
    }

no_budget_tells : (l : Lists) → (budget : ℕ) → 1 ≤ length l.tasks → (budget ≡ 0) ⊎ (10_000 < budget) → Relaxes l budget (Err Budget)
no_budget_tells l budget some out =
    record {
      no_tasks = (λ e. cc, λ z. absurd (omega (arith, some, z)));
      no_budget = (λ e. (some, out), λ h. refl);
      one = inr (inl refl);
      none = λ t low high. absurd (⊎_elim (λ z. omega (arith, z, low)) (λ g. omega (arith, g, high)) out);
      gives = λ a n e. cc;
    }

module _ (l : Lists) (sound : Sound l) (budget : ℕ) (some : 1 ≤ length l.tasks) (low : 1 ≤ budget) (high : budget ≤ 10_000) where
  inside_budget : (budget ≡ 0) ⊎ (10_000 < budget) → ⊥
  inside_budget out = ⊎_elim (λ z. omega (arith, z, low)) (λ g. omega (arith, g, high)) out

  hopeless_tells : (T (feasible (problem l) no_rule) → ⊥) → Relaxes l budget (Ok none_relaxed)
  hopeless_tells hopeless =
      record {
        no_tasks = (λ e. cc, λ z. absurd (omega (arith, some, z)));
        no_budget = (λ e. cc, λ h. absurd (inside_budget h.1));
        one = inr (inr (inl refl));
        none = λ t l1 h1. (λ e o. hopeless ((feasible-order l sound no_rule).1 o), λ none. refl);
        gives = λ a n e. absurd (none_some a n (sym e));
      }

  hopeful_tells : T (feasible (problem l) no_rule) → (a : Relaxation) (n : ℕ) → Relieves l budget a n
      → Relaxes l budget (Ok (record { relaxation = Some a; count = n }))
  hopeful_tells hopeful a n relieves =
      record {
        no_tasks = (λ e. cc, λ z. absurd (omega (arith, some, z)));
        no_budget = (λ e. cc, λ h. absurd (inside_budget h.1));
        one = inr (inr (inr (a, n, refl)));
        none = λ t l1 h1. (λ e. absurd (none_some a n e), λ none. absurd (none ((feasible-order l sound no_rule).0 hopeful)));
        gives = λ b k e.
            let both = ok_same (record { relaxation = Some a; count = n }) (record { relaxation = Some b; count = k }) e in
            let given : ◌≡◌ {A = Option Relaxation} (Some a) (Some b) = ap (λ (r : Relaxed). r.relaxation) both in
            let same : a ≡ b = cc in
            let count : n ≡ k = ap (λ (r : Relaxed). r.count) both in
            subst (λ (c : Relaxation). Relieves l budget c k) same (subst (Relieves l budget a) count relieves);
      }

  abbrev fits : Bool
  fits = leb (length l.rules) short && leb subsets budget

  module _ (hopeful : T (feasible (problem l) no_rule)) where
    short_tells : Tabled (problem l) → T fits → Relaxes l budget (Ok (tabled_relaxation (problem l)))
    short_tells tables t =
        let few = leb→le (length l.rules) short (and_left (leb (length l.rules) short) (leb subsets budget) t) in
        let enough = leb→le subsets budget (and_right (leb (length l.rules) short) (leb subsets budget) t) in
        rw (tabled_whole (problem l) hopeful) (hopeful_tells hopeful _ _ (tabled_relieves l sound tables few budget enough))

    long_tells : (T fits → ⊥) → Relaxes l budget (Ok (explored_relaxation (problem l) budget))
    unfolding explored_relaxation
    long_tells over =
        hopeful_tells hopeful _ _
        (explored_relieves l sound hopeful budget low
        (λ few enough.
        over (and_intro (leb (length l.rules) short) (leb subsets budget) (le→leb (length l.rules) short few) (le→leb subsets budget enough))))

    searches_tell : (length l.rules ≤ 12 → Tabled (problem l))
        → Relaxes l budget (Ok (pick fits (tabled_relaxation (problem l)) (explored_relaxation (problem l) budget)))
    searches_tell tables = go fits refl
      where
        go : (b : Bool) → fits ≡ b → Relaxes l budget (Ok (pick b (tabled_relaxation (problem l)) (explored_relaxation (problem l) budget)))
        go true e =
            short_tells
            (tables (leb→le (length l.rules) short (and_left (leb (length l.rules) short) (leb subsets budget) (true→T fits e))))
            (true→T fits e)
        go false e = long_tells (false→refuted fits e)

  within_tells : (length l.rules ≤ 12 → T (feasible (problem l) no_rule) → Tabled (problem l))
      → Relaxes l budget (Ok (relaxed_within (problem l) budget))
  unfolding relaxed_within
  within_tells tables = go (feasible (problem l) no_rule) refl
    where
      go : (b : Bool) → feasible (problem l) no_rule ≡ b
          → Relaxes l budget
          (Ok (pick b (pick fits (tabled_relaxation (problem l)) (explored_relaxation (problem l) budget)) none_relaxed))
      go true e =
          let hopeful = true→T (feasible (problem l) no_rule) e in
          searches_tell hopeful (λ few. tables few hopeful)
      go false e = hopeless_tells (false→refuted (feasible (problem l) no_rule) e)

-- a budget that is refused, and one that isn't
outside_is : (budget : ℕ) → outside 1 max_budget budget ≡ true → (budget ≡ 0) ⊎ (10_000 < budget)
outside_is budget e =
    ⊎_elim (λ low. let less = ltb→lt budget 1 low in inl (omega (arith, less))) (λ high. inr (ltb→lt max_budget budget high))
    (or_elim (ltb budget 1) (ltb max_budget budget) (true→T (outside 1 max_budget budget) e))

inside_is : (budget : ℕ) → outside 1 max_budget budget ≡ false → (1 ≤ budget) × (budget ≤ 10_000)
inside_is budget e = (
  ltb-false budget 1 (or_false_left (ltb budget 1) (ltb max_budget budget) e),
  ltb-false max_budget budget (or_false_right (ltb budget 1) (ltb max_budget budget) e),
)

tables : (l : Lists) → Sound l → length l.rules ≤ 12 → T (feasible (problem l) no_rule) → Tabled (problem l)
tables l sound few hopeful =
    let fit = relaxable l sound hopeful in
    let best = cheapest_is (problem l) fit few in
    let n = 2 ^ length l.rules in
    record {
      works = best.0;
      least = best.1;
      lists = cores_lists (problem l) fit few n (le_refl n);
      floor = cores_floor (problem l) fit few n (le_refl n);
      meets = cores_meet (problem l) fit few;
    }

pub relaxing_tells : (l : Lists) → Sound l → (budget : ℕ) → Relaxes l budget (relaxing_on l budget)
relaxing_tells l sound budget = begun (eqb (length l.tasks) 0) refl
  where
    budgeted : 1 ≤ length l.tasks → (b : Bool) → outside 1 max_budget budget ≡ b
        → Relaxes l budget (pick b (Err Budget) (Ok (relaxed_within (problem l) budget)))
    budgeted some true e = no_budget_tells l budget some (outside_is budget e)
    budgeted some false e =
        within_tells l sound budget some (inside_is budget e).0 (inside_is budget e).1 (tables l sound)

    begun : (b : Bool) → eqb (length l.tasks) 0 ≡ b
        → Relaxes l budget
        (pick b (Err NoTasks) (pick (outside 1 max_budget budget) (Err Budget) (Ok (relaxed_within (problem l) budget))))
    begun true e = no_tasks_tells l budget (eqb→eq (length l.tasks) 0 (true→T (eqb (length l.tasks) 0) e))
    begun false e =
        let some : 1 ≤ length l.tasks = omega (arith, eqb-false (length l.tasks) 0 e) in
        budgeted some (outside 1 max_budget budget) refl

pub relax_says : (s : TaskSet) (budget : ℕ) (r : Result Relaxed Refusal) → r ≡ relaxing s budget → Made s → Relaxes (lists s) budget r
unfolding relaxing
relax_says s budget r e made =
    subst (Relaxes (lists s) budget) (sym (e ∙ rw (made_passes s made) refl)) (relaxing_tells (lists s) (made_sound s made) budget)

-- ---- of a set, by the tests that the code makes

abbrev pub in_budget : ℕ → Bool
in_budget budget = is_le (nat_cmp 1 budget) && is_le (nat_cmp budget max_budget)

is_le-leb : (x y : ℕ) → is_le (nat_cmp x y) ≡ leb x y
is_le-leb x y = grind arith

outside_not : (budget : ℕ) → outside 1 max_budget budget ≡ not (in_budget budget)
outside_not budget = rw (is_le-leb 1 budget, is_le-leb budget max_budget) (grind arith)

module _ (s : TaskSet) (budget : ℕ) (made : is_made s ≡ true) (l : Lists) (same : l ≡ lists s) where
  made_relaxing : relaxing_on l budget ≡ relaxing s budget
  unfolding relaxing
  made_relaxing = on_made_lists s (λ (k : Lists). relaxing_on k budget) made l same

  pub relax_13 : eqb (length l.tasks) 0 ≡ true → Err NoTasks ≡ relaxing s budget
  relax_13 none = let first : Err NoTasks ≡ relaxing_on l budget = rw none refl in first ∙ made_relaxing

  module _ (some : eqb (length l.tasks) 0 ≡ false) where
    pub relax_16 : in_budget budget ≡ false → Err Budget ≡ relaxing s budget
    relax_16 e =
        let out : outside 1 max_budget budget ≡ true = outside_not budget ∙ ap not e in
        let second : Err Budget ≡ relaxing_on l budget = rw (some, out) refl in
        second ∙ made_relaxing

    pub relax_found : in_budget budget ≡ true → (r : Relaxed) → r ≡ relaxed_within (problem l) budget → Ok r ≡ relaxing s budget
    relax_found e r is =
        let inside : outside 1 max_budget budget ≡ false = outside_not budget ∙ ap not e in
        let last : Ok r ≡ relaxing_on l budget = rw (some, inside) (ap Ok is) in
        last ∙ made_relaxing
