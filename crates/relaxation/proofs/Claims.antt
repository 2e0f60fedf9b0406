-- What is claimed of the search for the cheapest rules to give up, over any problem: of cores, of sets that are still to be looked at,
-- and of an exploration on its way. Assumes nothing.
use Rattle.std.specs.Prelude.{◌≡◌, Bool, false, true, List, ◌⊎◌, ℕ, ◌+◌, ◌*◌, ◌≤◌, ◌<◌, T, length, get_or, set}
use Rattle.sets.specs.Bounded.{every, Subset}
use Rattle.sets.specs.Sum.{sum}
use Rattle.sets.specs.Marks.{marked}
use Rattle.taskset.specs.Refusals.{max_rules, max_weight}
use Rattle.assignment.specs.Orders.{no_rule}
use Rattle.assignment.specs.Audsley.{Problem, feasible}
use Rattle.assignment.specs.Cores.{IsCore}
use Rattle.assignment.specs.Decision.{Lawful}
use Rattle.relaxation.specs.declared.restore.Restoring.{Restoring}
use Rattle.relaxation.specs.declared.cores.DisjointCores.{DisjointCores}
use Rattle.relaxation.specs.declared.cores.Cores.{Cores}
use Rattle.relaxation.specs.declared.frontier.Open.{Open}
use Rattle.relaxation.specs.declared.frontier.Frontier.{Frontier}
use Rattle.relaxation.specs.declared.explore.Exploring.{Exploring}
use Rattle.relaxation.specs.Weights.{weight_at, cost_of, least_weight}
use Rattle.relaxation.specs.Disjoint.{max_remembered, core_at}
use Rattle.relaxation.specs.Relaxes.{in_core}
use Rattle.relaxation.specs.Frontier.{open_at, FewOpen}

module _ (p : Problem) where
  abbrev m : ℕ
  m = length p.rules

  -- what the argument asks of a problem: fewer rules can't break it, there are few, each has a weight, and without any there is an order
  pub record Relaxable : Type 0 where
    pub lawful : Lawful p
    pub few : length p.rules ≤ max_rules
    pub weights : (k : ℕ) → k < length p.rules → (1 ≤ weight_at p.rules k) × (weight_at p.rules k ≤ max_weight)
    pub hopeful : T (feasible p no_rule)

  -- the rules put back within a budget: there is an order; and where the budget reaches for all, no other can be put back alone
  pub record Restores (budget : ℕ) (r : Restoring) : Type 0 where
    pub long : length r.kept ≡ max_rules
    pub inside : (k : ℕ) → T (marked r.kept k) → k < length p.rules
    pub works : T (feasible p (marked r.kept))
    pub within : 1 ≤ budget → r.count ≤ budget
    pub whole : length p.rules < budget → r.count ≡ length p.rules + 1
    pub done : length p.rules < budget → (k : ℕ) → k < length p.rules → marked r.kept k ≡ false
        → T (feasible p (marked (set r.kept k true))) → ⊥
    -- where the budget did not reach for all, it is used up
    pub used : budget ≤ length p.rules → 1 ≤ budget → r.count ≡ budget

  -- the cores that are remembered are cores
  pub record Remembers (c : Cores) : Type 0 where
    pub size : length c.sets ≡ max_remembered
    pub each : (i : ℕ) → i < c.n → IsCore p (core_at c i)

  -- those that are listed are cores, share no rule by their numbers, and have these least weights
  pub record ListsCores (s : DisjointCores) : Type 0 where
    pub long : length s.numbers ≡ max_rules
    pub numbers : (k : ℕ) → get_or s.numbers k 0 ≤ s.ncores
    pub core : (j : ℕ) → 1 ≤ j → j ≤ s.ncores → IsCore p (in_core s.numbers j)
    pub some : (j : ℕ) → 1 ≤ j → j ≤ s.ncores → (k : ℕ) × (k < length p.rules) × (get_or s.numbers k 0 ≡ j)
    pub least : s.least ≡ sum s.ncores every (λ j. least_weight p.rules (length p.rules) (in_core s.numbers (j + 1)))

  -- of a set to be looked at: what it costs, and what no subset that has an order costs less than
  pub record Opens (o : Open) : Type 0 where
    pub long : length o.kept ≡ max_rules
    pub inside : (k : ℕ) → T (marked o.kept k) → k < length p.rules
    pub cost : o.cost ≡ cost_of p.rules (marked o.kept)
    pub more : o.cost ≤ o.least
    pub floor : (K : ℕ → Bool) → T (feasible p K) → Subset (length p.rules) K (marked o.kept) → o.least ≤ cost_of p.rules K

  -- every set that has an order and costs less than the limit is part of one on the frontier, or of one beside it
  abbrev pub Covers : Frontier → ℕ → ((ℕ → Bool) → Type 0) → Type 0
  Covers f limit beside =
      f.full ≡ false → (K : ℕ → Bool) → T (feasible p K) → cost_of p.rules K < limit
      → beside K ⊎ ((i : ℕ) × (i < f.n) × Subset (length p.rules) K (marked (open_at f i).kept))

  pub record Fronts (f : Frontier) (limit : ℕ) (beside : (ℕ → Bool) → Type 0) : Type 0 where
    pub few : FewOpen f
    pub each : (i : ℕ) → i < f.n → Opens (open_at f i)
    pub less : (i : ℕ) → i < f.n → (open_at f i).least < limit
    pub covers : Covers f limit beside

  -- nothing beside it; one set beside it
  abbrev pub nothing_beside : (ℕ → Bool) → Type 0
  nothing_beside K = ⊥

  abbrev pub part_of : Open → (ℕ → Bool) → Type 0
  part_of o K = Subset (length p.rules) K (marked o.kept)

  -- of a set in hand: it has an order, it costs so much, and where the budget reaches for all no other rule can be put back alone
  pub record InHand (budget : ℕ) (kept : List Bool) (price : ℕ) : Type 0 where
    pub long : length kept ≡ max_rules
    pub inside : (k : ℕ) → T (marked kept k) → k < length p.rules
    pub works : T (feasible p (marked kept))
    pub cost : price ≡ cost_of p.rules (marked kept)
    pub done : length p.rules < budget → (k : ℕ) → k < length p.rules → marked kept k ≡ false
        → T (feasible p (marked (set kept k true))) → ⊥

  -- no set that has an order costs less
  abbrev pub IsFloor : ℕ → Type 0
  IsFloor floor = (K : ℕ → Bool) → T (feasible p K) → floor ≤ cost_of p.rules K

  pub record Explores (budget : ℕ) (e : Exploring) : Type 0 where
    pub hand : InHand budget e.kept e.cost
    pub remembers : Remembers e.cores
    pub floor : IsFloor e.floor
    pub count : e.count ≤ budget
    pub fronts : e.going ≡ true → (e.frontier.full ≡ false) × Fronts e.frontier e.cost nothing_beside
    -- where the budget reaches that far and a rule is given up, a core was found
    pub found : 2 * length p.rules < budget → 0 < e.cost → 0 < e.cores.n
