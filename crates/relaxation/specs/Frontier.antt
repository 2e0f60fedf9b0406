-- The sets of rules whose subsets are still to be looked at: how one with the least bound is taken out, and how it is branched. Assumes nothing.
use Rattle.std.specs.Prelude.{Bool, false, true, List, [], ℕ, zero, suc, ◌+◌, ◌-◌, ◌≡◌, ◌≤◌, ◌<◌, max, leb, ltb, length, get_or, set}
use Rattle.sets.specs.Choice.{pick}
use Rattle.sets.specs.Marks.{marked}
use Rattle.taskset.specs.declared.Rule.{Rule}
use Rattle.relaxation.specs.declared.cores.Cores.{Cores}
use Rattle.relaxation.specs.declared.frontier.Open.{Open}
use Rattle.relaxation.specs.declared.frontier.Frontier.{Frontier}
use Rattle.relaxation.specs.Weights.{weight_at, cost_most}
use Rattle.relaxation.specs.Disjoint.{listed_in}

-- so many are kept at once
abbrev pub max_open : ℕ
max_open = 1_024

-- an entry past the end
abbrev pub no_open : Open
no_open = record { kept = []; cost = 0; least = 0 }

abbrev pub open_at : Frontier → ℕ → Open
open_at f i = get_or f.sets i no_open

-- no more than there is room for, and none costs more than all rules together can
pub record FewOpen (f : Frontier) : Type 0 where
  pub few : f.n ≤ max_open
  pub size : length f.sets ≡ max_open
  pub costs : (i : ℕ) → i < f.n → (open_at f i).cost ≤ cost_most

-- the last one of the first n whose bound is the least
unfoldable pub foremost : Frontier → ℕ → ℕ
foremost f zero = 0
foremost f (suc n) = let found = foremost f n in pick (leb (open_at f n).least (open_at f found).least) n found

abbrev pub least_of : Frontier → Open
least_of f = open_at f (foremost f f.n)

-- it is taken out, and the last one stands in its place
unfoldable pub taken : Frontier → Frontier
taken f = record { sets = set f.sets (foremost f f.n) (open_at f (f.n - 1)); n = f.n - 1; full = f.full }

-- one more, if there is room
unfoldable pub added : Frontier → Open → Frontier
added f o =
    pick (ltb f.n max_open) (record { sets = set f.sets f.n o; n = f.n + 1; full = f.full })
    (record { sets = f.sets; n = f.n; full = true })

module _ (rules : List Rule) (cores : Cores) (limit : ℕ) (o : Open) where
  -- the set without rule k: what it costs, and at least with the cores that are still kept whole and share no rule; nor does any of
  -- its subsets cost less than one of the set can
  abbrev pub without_rule : ℕ → Open
  without_rule k =
      let kept = set o.kept k false in
      let cost = o.cost + weight_at rules k in
      record { kept = kept; cost = cost; least = max o.least (cost + (listed_in rules cores.sets (marked kept) cores.n).least) }

  -- it is added where it may cost less than the limit
  unfoldable pub child : Frontier → ℕ → Frontier
  child f k = let open_ = without_rule k in pick (ltb open_.least limit) (added f open_) f

  -- the set without each of those of the first n rules that are in a core
  unfoldable pub branched : (ℕ → Bool) → Frontier → ℕ → Frontier
  branched core f zero = f
  branched core f (suc n) = let before = branched core f n in pick (core n) (child before n) before
