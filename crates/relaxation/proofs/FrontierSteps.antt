-- A loop over the frontier. Assumes nothing.
use Rattle.std.specs.Prelude.{◌≡◌, refl, Bool, true, false, List, ℕ, ◌+◌, ◌-◌, ◌≤◌, ◌<◌, max, leb, set}
use Rattle.std.proofs.Common.{ap, arith, add-one, lt-ltb, le-ltb}
use Rattle.sets.specs.Choice.{pick}
use Rattle.sets.specs.Marks.{marked}
use Rattle.taskset.specs.declared.Rule.{Rule}
use Rattle.relaxation.specs.declared.cores.DisjointCores.{DisjointCores}
use Rattle.relaxation.specs.declared.cores.Cores.{Cores}
use Rattle.relaxation.specs.declared.frontier.Frontier.{Frontier}
use Rattle.relaxation.specs.declared.frontier.Open.{Open}
use Rattle.relaxation.specs.Weights.{weight_at}
use Rattle.relaxation.specs.Disjoint.{listed_in}
use Rattle.relaxation.specs.Frontier.{max_open, open_at, foremost, taken, added, child, branched}

pub foremost_none : (f : Frontier) → 0 ≡ foremost f 0
unfolding foremost
foremost_none f = refl

pub foremost_turn : (f : Frontier) (n found : ℕ) → found ≡ foremost f n → (b : Bool) → leb (open_at f n).least (open_at f found).least ≡ b
    → pick b n found ≡ foremost f (n + 1)
unfolding foremost
foremost_turn f n found e b t = rw (add-one n, ← e, t) refl

-- the set at the index that was found is taken out
pub taken_is : (f : Frontier) (i : ℕ) → i ≡ foremost f f.n
    → record { sets = set f.sets i (open_at f (f.n - 1)); n = f.n - 1; full = f.full } ≡ taken f
unfolding taken
taken_is f i e = ap (λ (k : ℕ). record { sets = set f.sets k (open_at f (f.n - 1)); n = f.n - 1; full = f.full }) e

-- one more, if there is room
pub added_room : (f : Frontier) (o : Open) → f.n < max_open → record { sets = set f.sets f.n o; n = f.n + 1; full = f.full } ≡ added f o
unfolding added
added_room f o h = rw (lt-ltb f.n max_open h) refl

pub added_full : (f : Frontier) (o : Open) → max_open ≤ f.n → record { sets = f.sets; n = f.n; full = true } ≡ added f o
unfolding added
added_full f o h = rw (le-ltb f.n max_open h) refl

-- a set without one of its rules, where it may cost less than the limit
module _ (rules : List Rule) (cores : Cores) (limit : ℕ) (o : Open) (f : Frontier) (k : ℕ) (s : DisjointCores)
    (is : s ≡ listed_in rules cores.sets (marked (set o.kept k false)) cores.n) where
  abbrev bound : ℕ
  bound = max o.least (o.cost + weight_at rules k + s.least)

  pub child_less : (least : ℕ) → least ≡ bound → least < limit
      → added f (record { kept = set o.kept k false; cost = o.cost + weight_at rules k; least = least }) ≡ child rules cores limit o f k
  unfolding child
  child_less least e h = rw (e, is) (rw (lt-ltb _ limit (rw (e, is) at h)) refl)

  pub child_more : (least : ℕ) → least ≡ bound → limit ≤ least → f ≡ child rules cores limit o f k
  unfolding child
  child_more least e h = rw (le-ltb _ limit (rw (e, is) at h)) refl

-- where its own cost is the limit, it is not added
pub child_dear : (rules : List Rule) (cores : Cores) (limit : ℕ) (o : Open) (f : Frontier) (k : ℕ)
    → limit ≤ o.cost + weight_at rules k → f ≡ child rules cores limit o f k
child_dear rules cores limit o f k h =
    let s = listed_in rules cores.sets (marked (set o.kept k false)) cores.n in
    child_more rules cores limit o f k s refl (max o.least (o.cost + weight_at rules k + s.least)) refl (omega (arith, h))

-- and without each rule of a core
module _ (rules : List Rule) (cores : Cores) (limit : ℕ) (o : Open) (core : ℕ → Bool) (f : Frontier) where
  pub branched_none : f ≡ branched rules cores limit o core f 0
  unfolding branched
  branched_none = refl

  pub branched_next : (n : ℕ) (g : Frontier) → g ≡ branched rules cores limit o core f n → (b : Bool) → core n ≡ b
      → pick b (child rules cores limit o g n) g ≡ branched rules cores limit o core f (n + 1)
  unfolding branched
  branched_next n g e b t = rw (add-one n, ← e, t) refl
