-- Document 02, (f): how the cheapest set of rules to give up is looked for. A set of rules is solved where `feasible` is asked of it,
-- and each time the count grows by one; where a core is cut out, by one for each rule, since each is tried. Assumes nothing.
use Rattle.std.specs.Prelude.{Bool, false, not, List, [], ℕ, zero, suc, ◌+◌, ◌≤◌, ◌&&◌, leb, ltb, eqb, length, get_or, replicate}
use Rattle.sets.specs.Choice.{pick, option}
use Rattle.sets.specs.Bounded.{greatest}
use Rattle.sets.specs.Marks.{first, marked, table}
use Rattle.taskset.specs.Refusals.{max_rules}
use Rattle.assignment.specs.Audsley.{Problem, feasible}
use Rattle.verdict.specs.Core.{tried, cut_of}
use Rattle.relaxation.specs.declared.restore.Restoring.{Restoring}
use Rattle.relaxation.specs.declared.frontier.Open.{Open}
use Rattle.relaxation.specs.declared.explore.Exploring.{Exploring}
use Rattle.relaxation.specs.Weights.{cost_of, cost_most, marks_of}
use Rattle.relaxation.specs.Turns.{light_first}
use Rattle.relaxation.specs.Restoring.{max_budget, restored}
use Rattle.relaxation.specs.Disjoint.{included, max_remembered, core_at, remembered}
use Rattle.relaxation.specs.Frontier.{max_open, FewOpen, least_of, taken, branched}

-- how often a set is looked at, at most
abbrev pub looks : ℕ
looks = 10_000

-- a set of rules that is being cut down, and how many sets were solved
pub record Tried : Type 0 where
  pub left : ℕ → Bool
  pub count : ℕ

-- what keeps the numbers of an exploration small
pub record Bounds (e : Exploring) : Type 0 where
  pub few : FewOpen e.frontier
  pub cores : e.cores.n ≤ max_remembered
  pub cost : e.cost ≤ cost_most
  pub count : e.count ≤ max_budget

-- no more is looked at
abbrev pub stopped : Exploring → Exploring
stopped e =
    record { frontier = e.frontier; cores = e.cores; kept = e.kept; cost = e.cost; floor = e.floor; count = e.count; going = false }

-- so many sets more are solved
abbrev pub counted : Exploring → ℕ → Exploring
counted e n =
    record { frontier = e.frontier; cores = e.cores; kept = e.kept; cost = e.cost; floor = e.floor; count = e.count + n; going = e.going }

-- a set whose bound is the least is taken out, and the bound is the floor
abbrev pub taking : Exploring → Exploring
taking e =
    record {
      frontier = taken e.frontier;
      cores = e.cores;
      kept = e.kept;
      cost = e.cost;
      floor = (least_of e.frontier).least;
      count = e.count;
      going = e.going;
    }

-- the set in hand is the cheapest
abbrev pub settled : Exploring → Exploring
settled e =
    record { frontier = e.frontier; cores = e.cores; kept = e.kept; cost = e.cost; floor = e.cost; count = e.count; going = false }

-- another one comes in its place
abbrev pub changed : Exploring → Open → Exploring
changed e o =
    record { frontier = e.frontier; cores = e.cores; kept = o.kept; cost = o.cost; floor = e.floor; count = e.count; going = false }

module _ (p : Problem) where
  abbrev m : ℕ
  m = length p.rules

  -- what is left of a set of rules that has no order after so many turns: in each a rule is tried, the lightest first, and so a set
  -- more is solved
  unfoldable pub counted_cut : (ℕ → Bool) → ℕ → ℕ → Tried
  counted_cut start count zero = record { left = start; count = count }
  counted_cut start count (suc n) =
      let before = counted_cut start count n in
      record { left = tried (feasible p) before.left (light_first p.rules n); count = before.count + 1 }

  -- when each rule had its turn: the core in the set
  unfoldable pub core_in : List Bool → List Bool
  core_in kept = table max_rules (cut_of (feasible p) (light_first p.rules) (marked kept) m)

  -- in place of a set, it without each of the rules of a core
  unfoldable pub branching : Exploring → Open → List Bool → Exploring
  branching e o core =
      let f = branched p.rules e.cores e.cost o (marked core) e.frontier m in
      record { frontier = f; cores = e.cores; kept = e.kept; cost = e.cost; floor = e.floor; count = e.count; going = not f.full }

  -- a core is found in a set that has no order
  abbrev pub learned : Exploring → Open → List Bool → ℕ → Exploring
  learned e o core count =
      branching
      (record {
        frontier = e.frontier;
        cores = remembered e.cores core;
        kept = e.kept;
        cost = e.cost;
        floor = e.floor;
        count = count;
        going = e.going;
      })
      o core

  unfoldable pub learning : Exploring → Open → Exploring
  learning e o = let cut = counted_cut (marked o.kept) e.count m in learned e o (table max_rules cut.left) cut.count

  -- the set of all rules, which costs nothing; and at the start the rules that could be put back are in hand
  abbrev pub every_open : Open
  every_open = record { kept = marks_of m (first m); cost = 0; least = 0 }

  abbrev pub at_start : Restoring → Exploring
  at_start r =
      record {
        frontier = record { sets = replicate max_open every_open; n = 0; full = false };
        cores = record { sets = replicate max_remembered (replicate max_rules false); n = 0 };
        kept = r.kept;
        cost = cost_of p.rules (marked r.kept);
        floor = 0;
        count = r.count;
        going = false;
      }

  module _ (budget : ℕ) where
    -- a set that keeps no known core whole is solved, while the budget lasts: if it has an order it is the cheapest
    unfoldable pub solved : Exploring → Open → Exploring
    solved e o =
        pick (leb budget e.count) (stopped e)
        (pick (feasible p (marked o.kept)) (changed (counted e 1) o)
        (pick (ltb budget (e.count + 1 + m)) (stopped (counted e 1)) (learning (counted e 1) o)))

    -- a set whose bound is the least is looked at
    unfoldable pub looked : Exploring → Exploring
    looked e =
        let o = least_of e.frontier in
        pick (eqb e.frontier.n 0) (settled e)
        (option (solved (taking e) o) (λ i. branching (taking e) o (get_or e.cores.sets i []))
        (greatest e.cores.n (λ i. included p.rules (core_at e.cores i) (marked o.kept))))

    -- so many looks, until there is no more to look at
    unfoldable pub looking : Exploring → ℕ → Exploring
    looking e zero = e
    looking e (suc n) = pick e.going (looking (looked e) n) e

    -- where not all could, and the budget lasts, all rules together have no order, and a core is found
    unfoldable pub started : Restoring → Exploring
    started r = let e = at_start r in pick (ltb 0 e.cost && leb (e.count + m) budget) (learning e every_open) e

    unfoldable pub explored : Exploring
    explored = looking (started (restored p budget m)) looks
