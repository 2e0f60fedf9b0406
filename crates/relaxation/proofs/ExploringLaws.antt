-- The search for the cheapest rules to give up: what is in hand works, no set that has an order costs less than the floor, and where
-- the budget lasts a core is found. Assumes nothing.
use Rattle.std.specs.Prelude.{Option, ◌≡◌, refl, Bool, true, false, not, ◌&&◌, List, [], ℕ, zero, suc, ◌+◌, ◌*◌, ◌≤◌, ◌<◌, T, leb, ltb, eqb, length, get_or, set, replicate}
use Rattle.std.proofs.Common.{add-zero, ap, sym, subst, ◌∙◌, inl, ⊎_elim, not-suc-le-zero, le_refl, arith, leb→le, ltb→lt, lt→ltb, le→leb, eqb→eq}
use Rattle.std.proofs.lemmas.Bool.{false≢true}
use Rattle.std.proofs.lemmas.List.{get_or-set_same, get_or-set_other, length-set, length-replicate}
use borrow.Author.Tests.{leb-false, ltb-false, eqb-false}
use Rattle.sets.specs.Choice.{pick, option, T→true, true→T, refuted→false, false→refuted, not→refuted, and_intro, lt_or_le}
use Rattle.sets.specs.Bounded.{others, Subset, greatest, Greatest, found, nothing, greatest_is}
use Rattle.sets.specs.Sum.{sum-le}
use Rattle.sets.specs.Marks.{marked-table, first, marked, table, length-table}
use Rattle.sets.specs.Pad.{pad-length}
use Rattle.taskset.specs.Refusals.{max_rules, max_weight}
use Rattle.assignment.specs.Audsley.{Problem, feasible}
use Rattle.assignment.specs.Cores.{IsCore}
use Rattle.assignment.specs.Decision.{feasible_fewer}
use Rattle.verdict.specs.Core.{cut_of}
use Rattle.verdict.specs.CoreLaws.{EachTurn, first_below, cut_rules, cut_beyond, cut_is_core}
use Rattle.relaxation.specs.declared.restore.Restoring.{Restoring}
use Rattle.relaxation.specs.declared.cores.Cores.{Cores}
use Rattle.relaxation.specs.declared.frontier.Open.{Open}
use Rattle.relaxation.specs.declared.explore.Exploring.{Exploring}
use Rattle.relaxation.specs.Weights.{weight_at, cost_of, cost_most}
use Rattle.relaxation.specs.Turns.{light_first}
use Rattle.relaxation.specs.Restoring.{restored}
use Rattle.relaxation.specs.Disjoint.{included, max_remembered, core_at, remembered}
use Rattle.relaxation.specs.Frontier.{max_open, least_of, branched}
use Rattle.relaxation.specs.Exploring.{stopped, counted, taking, settled, changed, counted_cut, core_in, branching, learned, learning, solved, looked, looking, every_open, at_start, started, explored, looks}
use Rattle.relaxation.proofs.Claims.{Relaxable, Restores, Remembers, Opens, Fronts, part_of, InHand, IsFloor, Explores}
use Rattle.relaxation.proofs.RestoringLaws.{marked_there, marked_still}
use Rattle.relaxation.proofs.DisjointLaws.{included-subset}
use Rattle.relaxation.proofs.TurnLaws.{marks_first}
use Rattle.relaxation.proofs.FrontierLaws.{more_cost, ListedFloor, least_floor, taken_fronts, branched_fronts}

-- each rule of a set has a turn, the lightest first
abbrev LightEach : Problem → Type 0
LightEach p = (start : ℕ → Bool) → ((j : ℕ) → T (start j) → j < length p.rules) → EachTurn (light_first p.rules) start (length p.rules)

-- ---- a core cut out: each turn is a set more

module _ (p : Problem) where
  counted_cut_is : (start : ℕ → Bool) (count n : ℕ)
      → counted_cut p start count n ≡ record { left = cut_of (feasible p) (light_first p.rules) start n; count = count + n }
  unfolding counted_cut cut_of
  counted_cut_is start count zero = rw (add-zero count) refl
  counted_cut_is start count (suc n) = rw (counted_cut_is start count n) (ap (λ (k : ℕ). record { left = cut_of (feasible p) (light_first p.rules) start (suc n); count = k }) (omega arith))

  pub learning_is : (e : Exploring) (o : Open) → learning p e o ≡ learned p e o (core_in p o.kept) (e.count + length p.rules)
  unfolding learning core_in
  learning_is e o = rw (counted_cut_is (marked o.kept) e.count (length p.rules)) refl

module _ (p : Problem) (fit : Relaxable p) where
  abbrev m : ℕ
  m = length p.rules

  -- ---- what it costs

  -- giving up rules costs no more than giving up all
  cost-le : (A : ℕ → Bool) → cost_of p.rules A ≤ cost_most
  cost-le A =
      let each = sum-le m (others A) (weight_at p.rules) max_weight (λ k h t. (fit.weights k h).1) in
      omega (arith, each, fit.few)

  -- a rule that is put back no longer costs its weight
  cost_put_back : (kept : List Bool) (k : ℕ) → k < length p.rules → length kept ≡ max_rules → marked kept k ≡ false
      → cost_of p.rules (marked (set kept k true)) < cost_of p.rules (marked kept)
  cost_put_back kept k h long e =
      let room : k < length kept = omega (arith, h, fit.few, long) in
      more_cost p.rules (marked kept) (λ j l. (fit.weights j l).0) k h (false→refuted (marked kept k) e) (marked (set kept k true))
      (λ j l t. marked_still kept k room j t) (marked_there kept k room)

  -- where giving up rules costs something some rule is given up
  some_given_up : (A : ℕ → Bool) → 0 < cost_of p.rules A → (k : ℕ) × (k < length p.rules) × (A k ≡ false)
  some_given_up A dear = go (greatest m (others A)) (greatest_is m (others A))
    where
      go : (r : Option ℕ) → Greatest m (others A) r → (k : ℕ) × (k < length p.rules) × (A k ≡ false)
      go r (found k g) = (k, g.below, refuted→false (A k) (not→refuted (A k) g.passes))
      go r (nothing none) =
          let least = sum-le m (others A) (weight_at p.rules) 0 (λ j h t. absurd (none j h t)) in
          absurd (omega (arith, least, dear))

  -- ---- cores

  -- the one that is cut out of a set, the lightest rule first, is part of it
  module _ (light_each : LightEach p) (kept : List Bool) (inside : (k : ℕ) → T (marked kept k) → k < length p.rules)
      (hopeless : T (feasible p (marked kept)) → ⊥) where
    abbrev stays : ℕ → Bool
    stays = cut_of (feasible p) (light_first p.rules) (marked kept) m

    stays_marked : marked (core_in p kept) ≡ stays
    unfolding core_in
    stays_marked =
        marked-table max_rules stays
        (λ k h. cut_beyond (feasible p) (light_first p.rules) (marked kept) m m inside k (omega (arith, h, fit.few)))

    core_in_is : IsCore p (marked (core_in p kept)) × Subset (length p.rules) (marked (core_in p kept)) (marked kept)
    core_in_is =
        subst (λ (A : ℕ → Bool). IsCore p A × Subset (length p.rules) A (marked kept)) (sym stays_marked) (
          cut_is_core p fit.lawful (light_first p.rules) (marked kept) inside (light_each (marked kept) inside) hopeless,
          λ j h t. cut_rules (feasible p) (light_first p.rules) (marked kept) m j t,
        )

  -- a core that is remembered is one of those remembered, if there is room
  module _ (c : Cores) (core : List Bool) (remembers : Remembers p c) (is : IsCore p (marked core)) where
    remembered_is : Remembers p (remembered c core)
    unfolding remembered
    remembered_is = go (ltb c.n max_remembered) refl
      where
        go : (b : Bool) → ltb c.n max_remembered ≡ b → Remembers p (pick b (record { sets = set c.sets c.n core; n = c.n + 1 }) c)
        go true e =
            let room = ltb→lt c.n max_remembered (true→T _ e) in
            record {
              size = length-set c.sets c.n core ∙ remembers.size;
              each = λ i h.
                  ⊎_elim
                  (λ l.
                  subst (λ (set : List Bool). IsCore p (marked set))
                  (sym (get_or-set_other c.sets c.n i core [] (λ f. omega (arith, f, l)))) (remembers.each i l))
                  (λ g.
                  let here : c.n ≡ i = omega (arith, g, h) in
                  subst (λ (q : ℕ). IsCore p (marked (get_or (set c.sets c.n core) q []))) here
                  (subst (λ (set : List Bool). IsCore p (marked set))
                  (sym (get_or-set_same c.sets c.n core [] (omega (arith, room, remembers.size)))) is))
                  (lt_or_le i c.n);
            }
        go false e = remembers

-- there is one then
remembered_some : (c : Cores) (core : List Bool) → 0 < (remembered c core).n
unfolding remembered
remembered_some c core = go (ltb c.n max_remembered) refl
  where
    go : (b : Bool) → ltb c.n max_remembered ≡ b → 0 < (pick b (record { sets = set c.sets c.n core; n = c.n + 1 }) c).n
    go true e = omega arith
    go false e = omega (arith, ltb-false c.n max_remembered e)

-- ---- on the way

not_full : (b : Bool) → not b ≡ true → b ≡ false
not_full true e = sym e
not_full false e = refl

-- an exploration in which the set o is taken out: what is beside the others is part of it
record Taken (p : Problem) (budget : ℕ) (e : Exploring) (o : Open) : Type 0 where
  hand : InHand p budget e.kept e.cost
  remembers : Remembers p e.cores
  floor : IsFloor p e.floor
  count : e.count ≤ budget
  opens : Opens p o
  fronts : Fronts p e.frontier e.cost (part_of p o)

-- where the budget reaches that far and a rule is given up, a core was found
abbrev Finds : Problem → ℕ → Exploring → Type 0
Finds p budget e = 2 * length p.rules < budget → 0 < e.cost → 0 < e.cores.n

-- an exploration in which all is claimed, and whose set in hand costs no more than that
abbrev Within : Problem → ℕ → ℕ → Exploring → Type 0
Within p budget most e = Explores p budget e × (e.cost ≤ most)

module _ (p : Problem) (fit : Relaxable p) (light_each : LightEach p) (listed_floor : ListedFloor p) (budget : ℕ) where
  counted_holds : (e : Exploring) (o : Open) → Taken p budget e o → (n : ℕ) → e.count + n ≤ budget → Taken p budget (counted e n) o
  counted_holds e o holds n lasts =
      record {
        hand = holds.hand;
        remembers = holds.remembers;
        floor = holds.floor;
        count = lasts;
        opens = holds.opens;
        fronts = holds.fronts;
      }

  module _ (e : Exploring) (o : Open) (holds : Taken p budget e o) (small : e.cost ≤ cost_most) (finds : Finds p budget e) where
    -- it is branched by a core in it
    branching_within : (core : List Bool) → IsCore p (marked core) → Subset (length p.rules) (marked core) (marked o.kept)
        → Within p budget e.cost (branching p e o core)
    unfolding branching
    branching_within core is part = (
      record {
        hand = holds.hand;
        remembers = holds.remembers;
        floor = holds.floor;
        count = holds.count;
        fronts = λ going. (
          not_full (branched p.rules e.cores e.cost o (marked core) e.frontier (length p.rules)).full going,
          branched_fronts p fit listed_floor e.cores holds.remembers e.cost o holds.opens (marked core) part small e.frontier is holds.fronts,
        );
        found = finds;
      },
      le_refl e.cost,
    )

    stopped_within : Within p budget e.cost (stopped e)
    stopped_within = (
      record {
        hand = holds.hand;
        remembers = holds.remembers;
        floor = holds.floor;
        count = holds.count;
        fronts = λ going. absurd (false≢true going);
        found = finds;
      },
      le_refl e.cost,
    )

    -- with an order it costs no more than any, so no rule can be put back
    changed_within : o.least < e.cost → e.floor ≡ o.least → T (feasible p (marked o.kept)) → Within p budget e.cost (changed e o)
    changed_within cheap level works = (
      record {
        hand =
            record {
              long = holds.opens.long;
              inside = holds.opens.inside;
              works = works;
              cost = holds.opens.cost;
              done = λ reaches k h gone t.
                  let less = cost_put_back p fit o.kept k h holds.opens.long gone in
                  let floor = holds.floor (marked (set o.kept k true)) t in
                  omega (arith, less, floor, level, holds.opens.more, holds.opens.cost);
            };
        remembers = holds.remembers;
        floor = holds.floor;
        count = holds.count;
        fronts = λ going. absurd (false≢true going);
        found = λ reaches some. finds reaches (omega (arith, cheap));
      },
      omega (arith, cheap, holds.opens.more),
    )

  -- with none a core is found in it
  module _ (e : Exploring) (o : Open) (holds : Taken p budget e o) (small : e.cost ≤ cost_most)
      (hopeless : T (feasible p (marked o.kept)) → ⊥) (lasts : e.count + length p.rules ≤ budget) where
    learning_within : Within p budget e.cost (learning p e o)
    learning_within =
        let is = core_in_is p fit light_each o.kept holds.opens.inside hopeless in
        rw (learning_is p e o)
        (branching_within
        (record {
          frontier = e.frontier;
          cores = remembered e.cores (core_in p o.kept);
          kept = e.kept;
          cost = e.cost;
          floor = e.floor;
          count = e.count + length p.rules;
          going = e.going;
        })
        o
        (record {
          hand = holds.hand;
          remembers = remembered_is p fit e.cores (core_in p o.kept) holds.remembers is.0;
          floor = holds.floor;
          count = lasts;
          opens = holds.opens;
          fronts = holds.fronts;
        })
        small (λ reaches some. remembered_some e.cores (core_in p o.kept)) (core_in p o.kept) is.0 is.1)

  module _ (e : Exploring) (o : Open) (holds : Taken p budget e o) (small : e.cost ≤ cost_most) (cheap : o.least < e.cost)
      (level : e.floor ≡ o.least) (finds : Finds p budget e) where
    solved_within : Within p budget e.cost (solved p budget e o)
    unfolding solved
    solved_within = begun (leb budget e.count) refl
      where
        tried : e.count + 1 ≤ budget → (f : Bool) → feasible p (marked o.kept) ≡ f → (b : Bool) → ltb budget (e.count + 1 + length p.rules) ≡ b
            → Within p budget e.cost (pick f (changed (counted e 1) o) (pick b (stopped (counted e 1)) (learning p (counted e 1) o)))
        tried lasts true f b g =
            changed_within (counted e 1) o (counted_holds e o holds 1 lasts) small finds cheap level (true→T (feasible p (marked o.kept)) f)
        tried lasts false f true g = stopped_within (counted e 1) o (counted_holds e o holds 1 lasts) small finds
        tried lasts false f false g =
            learning_within (counted e 1) o (counted_holds e o holds 1 lasts) small (false→refuted (feasible p (marked o.kept)) f)
            (ltb-false budget (e.count + 1 + length p.rules) g)

        begun : (b : Bool) → leb budget e.count ≡ b
            → Within p budget e.cost
            (pick b (stopped e)
            (pick (feasible p (marked o.kept)) (changed (counted e 1) o)
            (pick (ltb budget (e.count + 1 + length p.rules)) (stopped (counted e 1)) (learning p (counted e 1) o))))
        begun true g = stopped_within e o holds small finds
        begun false g =
            tried (omega (arith, leb-false budget e.count g)) (feasible p (marked o.kept)) refl
            (ltb budget (e.count + 1 + length p.rules)) refl

  -- a set is looked at
  module _ (e : Exploring) (explores : Explores p budget e) (going : e.going ≡ true) (small : e.cost ≤ cost_most) where
    abbrev light : Open
    light = least_of e.frontier

    -- with none left the one in hand is the cheapest
    settled_within : e.frontier.n ≡ 0 → Within p budget e.cost (settled e)
    settled_within none = (
      record {
        hand = explores.hand;
        remembers = explores.remembers;
        floor = λ K works.
            ⊎_elim
            (λ cheap.
            ⊎_elim (λ never. absurd never) (λ i. absurd (omega (arith, i.1, none)))
            ((explores.fronts going).1.covers (explores.fronts going).0 K works cheap))
            (λ g. g)
            (lt_or_le (cost_of p.rules K) e.cost);
        count = explores.count;
        fronts = λ on. absurd (false≢true on);
        found = explores.found;
      },
      le_refl e.cost,
    )

    taking_taken : 1 ≤ e.frontier.n → Taken p budget (taking e) light × (light.least < e.cost)
    taking_taken some =
        let room = (explores.fronts going).0 in
        let fronts = (explores.fronts going).1 in
        let is = taken_fronts p fit e.frontier e.cost fronts some in (
          record {
            hand = explores.hand;
            remembers = explores.remembers;
            floor = λ K works.
                ⊎_elim (λ cheap. least_floor p fit e.frontier e.cost fronts some room K works cheap) (λ g. omega (arith, g, is.1))
                (lt_or_le (cost_of p.rules K) e.cost);
            count = explores.count;
            opens = is.0;
            fronts = is.2;
          },
          is.1,
        )

    looked_within : Within p budget e.cost (looked p budget e)
    unfolding looked
    looked_within = any (eqb e.frontier.n 0) refl
      where
        known : Taken p budget (taking e) light → light.least < e.cost → (r : Option ℕ)
            → Greatest e.cores.n (λ i. included p.rules (core_at e.cores i) (marked light.kept)) r
            → Within p budget e.cost
            (option (solved p budget (taking e) light) (λ i. branching p (taking e) light (get_or e.cores.sets i [])) r)
        known is cheap r (found i g) =
            branching_within (taking e) light is small explores.found (get_or e.cores.sets i []) (explores.remembers.each i g.below)
            (included-subset p.rules (core_at e.cores i) (marked light.kept) (T→true _ g.passes))
        known is cheap r (nothing none) = solved_within (taking e) light is small cheap refl explores.found

        any : (b : Bool) → eqb e.frontier.n 0 ≡ b
            → Within p budget e.cost
            (pick b (settled e)
            (option (solved p budget (taking e) light) (λ i. branching p (taking e) light (get_or e.cores.sets i []))
            (greatest e.cores.n (λ i. included p.rules (core_at e.cores i) (marked light.kept)))))
        any true g = settled_within (eqb→eq e.frontier.n 0 (true→T _ g))
        any false g =
            let some : 1 ≤ e.frontier.n = omega (arith, eqb-false e.frontier.n 0 g) in
            known (taking_taken some).0 (taking_taken some).1
            (greatest e.cores.n (λ i. included p.rules (core_at e.cores i) (marked light.kept)))
            (greatest_is e.cores.n (λ i. included p.rules (core_at e.cores i) (marked light.kept)))

-- ---- at the start

module _ (p : Problem) (fit : Relaxable p) (budget : ℕ) where
  -- every rule is kept, which costs nothing
  every_cost : cost_of p.rules (marked (every_open p).kept) ≤ 0
  every_cost =
      rw (marks_first (length p.rules))
      (let least =
      sum-le (length p.rules) (others (first (length p.rules))) (weight_at p.rules) 0
      (λ k h t. absurd (not→refuted (first (length p.rules) k) t (lt→ltb k (length p.rules) h))) in
      omega (arith, least))

  every_opens : Opens p (every_open p)
  every_opens =
      record {
        long = pad-length max_rules false (table (length p.rules) (first (length p.rules)))
            (omega (arith, length-table (length p.rules) (first (length p.rules)), fit.few));
        inside = λ k t. first_below (length p.rules) k (subst (λ (A : ℕ → Bool). T (A k)) (marks_first (length p.rules)) t);
        cost = omega (arith, every_cost);
        more = le_refl 0;
        floor = λ K works part. omega arith;
      }

  every_part : (K : ℕ → Bool) → part_of p (every_open p) K
  every_part K j h t =
      subst (λ (A : ℕ → Bool). T (A j)) (sym (marks_first (length p.rules))) (lt→ltb j (length p.rules) h)

  -- the rules that were put back are in hand, and nothing is looked at yet
  module _ (r : Restoring) (restores : Restores p budget r) (some : 1 ≤ budget) where
    abbrev cost_back : ℕ
    cost_back = cost_of p.rules (marked r.kept)

    start_hand : InHand p budget r.kept cost_back
    start_hand =
        record {
          long = restores.long;
          inside = restores.inside;
          works = restores.works;
          cost = refl;
          done = restores.done;
        }

    start_remembers : Remembers p (at_start p r).cores
    start_remembers =
        record {
          size = length-replicate max_remembered (replicate max_rules false);
          each = λ i h. absurd (not-suc-le-zero h);
        }

    start_fronts : Fronts p (at_start p r).frontier cost_back (part_of p (every_open p))
    start_fronts =
        record {
          few =
              record {
                few = omega arith;
                size = length-replicate max_open (every_open p);
                costs = λ i h. absurd (not-suc-le-zero h);
              };
          each = λ i h. absurd (not-suc-le-zero h);
          less = λ i h. absurd (not-suc-le-zero h);
          covers = λ room K works cheap. inl (every_part K);
        }

    -- where all rules together have no order, and the budget lasts, a core is looked for
    pub start_hopeless : 0 < cost_back → r.count + length p.rules ≤ budget → T (feasible p (marked (every_open p).kept)) → ⊥
    start_hopeless dear lasts works =
        let more : length p.rules < budget =
        ⊎_elim (λ l. l) (λ g. absurd (omega (arith, g, lasts, some, restores.used g some))) (lt_or_le (length p.rules) budget) in
        let k = some_given_up p fit (marked r.kept) dear in
        restores.done more k.0 k.1 k.2
        (feasible_fewer p (marked (set r.kept k.0 true)) (marked (every_open p).kept) (λ j h t. every_part (λ q. true) j h tt) fit.lawful works)

-- ---- from the start to the end

-- one look more at the end
pub looking_last : (p : Problem) (budget : ℕ) (e : Exploring) (n : ℕ)
    → looking p budget e (suc n) ≡ pick (looking p budget e n).going (looked p budget (looking p budget e n)) (looking p budget e n)
unfolding looking
looking_last p budget e zero = refl
looking_last p budget e (suc n) = go e.going refl (looking_last p budget (looked p budget e) n)
  where
    more : ℕ → Exploring
    more k = looking p budget (looked p budget e) k

    go : (b : Bool) → e.going ≡ b → more (suc n) ≡ pick (more n).going (looked p budget (more n)) (more n)
        → let before = pick b (more n) e in pick b (more (suc n)) e ≡ pick before.going (looked p budget before) before
    go true on later = later
    go false off later = rw off refl

module _ (p : Problem) (fit : Relaxable p) (light_each : LightEach p) (listed_floor : ListedFloor p) (budget : ℕ) where
  looking_start : (e : Exploring) → Explores p budget e → Within p budget e.cost (looking p budget e 0)
  unfolding looking
  looking_start e explores = (explores, le_refl e.cost)

  looking_within : (e : Exploring) → Explores p budget e → e.cost ≤ cost_most → (n : ℕ) → Within p budget e.cost (looking p budget e n)
  looking_within e explores small zero = looking_start e explores
  looking_within e explores small (suc n) =
      rw (looking_last p budget e n) (go (looking p budget e n).going refl (looking_within e explores small n))
    where
      go : (b : Bool) → (looking p budget e n).going ≡ b → Within p budget e.cost (looking p budget e n)
          → Within p budget e.cost (pick b (looked p budget (looking p budget e n)) (looking p budget e n))
      go true on before =
          let next =
          looked_within p fit light_each listed_floor budget (looking p budget e n) before.0 on (omega (arith, before.1, small)) in
          (next.0, omega (arith, next.1, before.1))
      go false on before = before

  -- ---- from what was put back

  module _ (r : Restoring) (restores : Restores p budget r) (some : 1 ≤ budget) where
    abbrev cost : ℕ
    cost = cost_of p.rules (marked r.kept)

    started_within : Within p budget cost (started p budget r)
    unfolding started
    started_within = go (ltb 0 cost) refl (leb (r.count + length p.rules) budget) refl
      where
        none : (ltb 0 cost && leb (r.count + length p.rules) budget) ≡ false → Within p budget cost (at_start p r)
        none e = (
          record {
            hand = start_hand p fit budget r restores some;
            remembers = start_remembers p fit budget r restores some;
            floor = λ K works. omega arith;
            count = restores.within some;
            fronts = λ on. absurd (false≢true on);
            found = λ reaches dear. absurd
                (false→refuted (ltb 0 cost && leb (r.count + length p.rules) budget) e
                (and_intro (ltb 0 cost) (leb (r.count + length p.rules) budget) (lt→ltb 0 cost dear)
                (le→leb (r.count + length p.rules) budget (omega (arith, reaches, restores.whole (omega (arith, reaches)))))));
          },
          le_refl cost,
        )

        go : (a : Bool) → ltb 0 cost ≡ a → (b : Bool) → leb (r.count + length p.rules) budget ≡ b
            → Within p budget cost (pick (a && b) (learning p (at_start p r) (every_open p)) (at_start p r))
        go true e true g =
            let dear = ltb→lt 0 cost (true→T (ltb 0 cost) e) in
            let lasts = leb→le (r.count + length p.rules) budget (true→T (leb (r.count + length p.rules) budget) g) in
            learning_within p fit light_each listed_floor budget (at_start p r) (every_open p)
            (record {
              hand = start_hand p fit budget r restores some;
              remembers = start_remembers p fit budget r restores some;
              floor = λ K works. omega arith;
              count = restores.within some;
              opens = every_opens p fit budget;
              fronts = start_fronts p fit budget r restores some;
            })
            (cost-le p fit (marked r.kept)) (start_hopeless p fit budget r restores some dear lasts) lasts
        go true e false g = none (rw (e, g) refl)
        go false e b g = none (rw e refl)

  -- ---- the whole search

  module _ (restores : Restores p budget (restored p budget (length p.rules))) (some : 1 ≤ budget) where
    abbrev start : Exploring
    start = started p budget (restored p budget (length p.rules))

    pub explored_explores : Explores p budget (explored p budget)
    unfolding explored
    explored_explores =
        let is = started_within (restored p budget (length p.rules)) restores some in
        (looking_within start is.0 (omega (arith, is.1, cost-le p fit (marked (restored p budget (length p.rules)).kept))) looks).0
