-- What an exploration gives, put together. Assumes nothing.
use Rattle.std.specs.Prelude.{Some, ◌≡◌, refl, Bool, true, false, ◌&&◌, List, ℕ, ◌≤◌, T, leb, max, length, replicate}
use Rattle.std.proofs.Common.{sym, ap, subst, ◌∙◌}
use Rattle.sets.specs.Choice.{true→T}
use Rattle.sets.specs.Marks.{first, marked, marked-none}
use Rattle.taskset.specs.Refusals.{max_rules}
use Rattle.taskset.specs.Model.{Lists, Sound}
use Rattle.assignment.specs.Orders.{no_rule}
use Rattle.assignment.specs.Audsley.{Problem, feasible, problem}
use Rattle.subsets.specs.Subsets.{short, subsets}
use Rattle.relaxation.specs.declared.cores.DisjointCores.{DisjointCores}
use Rattle.relaxation.specs.declared.explore.Exploring.{Exploring}
use Rattle.relaxation.specs.Weights.{cost_of}
use Rattle.relaxation.specs.Disjoint.{listed_in}
use Rattle.relaxation.specs.Exploring.{explored}
use Rattle.relaxation.specs.Relaxing.{dropped_of, none_relaxed, tabled_relaxation, explored_relaxation, relaxed_within}
use Rattle.relaxation.proofs.Claims.{Explores}
use Rattle.relaxation.proofs.EachTurn.{light_each}
use Rattle.relaxation.proofs.DisjointLaws.{listed_floor}
use Rattle.relaxation.proofs.ExploringLaws.{explored_explores}
use Rattle.relaxation.proofs.ExploringSteps.{relaxable, restores}

-- what holds of an exploration of lists that adding takes
module _ (l : Lists) (sound : Sound l) (hopeful : T (feasible (problem l) no_rule)) (budget : ℕ) (some : 1 ≤ budget) where
  pub all_explored : Explores (problem l) budget (explored (problem l) budget)
  all_explored =
      let fit = relaxable l sound hopeful in
      explored_explores (problem l) fit (light_each l.rules sound.few_rules (λ k h. (sound.weights k h).least))
      (λ c r. listed_floor (problem l) fit c r) budget (restores l sound hopeful budget) some

  pub explored_cost_is : (e : Exploring) → e ≡ explored (problem l) budget → e.cost ≡ cost_of l.rules (marked e.kept)
  explored_cost_is e is = subst (λ (x : Exploring). x.cost ≡ cost_of l.rules (marked x.kept)) (sym is) all_explored.hand.cost

module _ (p : Problem) (budget : ℕ) (e : Exploring) (is : e ≡ explored p budget) (cost : e.cost ≡ cost_of p.rules (marked e.kept)) where
  pub explored_is : (s : DisjointCores) → s ≡ listed_in p.rules e.cores.sets (first (length p.rules)) e.cores.n
      → (dropped : List Bool) → dropped ≡ dropped_of (length p.rules) (marked e.kept)
      → (floor : ℕ) → floor ≡ max e.floor s.least
      → record {
        relaxation = Some (record { dropped = dropped; weight = e.cost; floor = floor; cores = s.numbers; ncores = s.ncores });
        count = e.count;
      }
      ≡ explored_relaxation p budget
  unfolding explored_relaxation
  explored_is s listed dropped d floor f = rw (← is, cost, d, f, listed) refl

-- ---- the set of no rules first

module _ (p : Problem) (budget : ℕ) (found : Bool) (is : found ≡ feasible p (marked (replicate max_rules false))) where
  none_found : feasible p no_rule ≡ found
  none_found = ap (feasible p) (sym (marked-none max_rules)) ∙ sym is

  pub within_none : found ≡ false → none_relaxed ≡ relaxed_within p budget
  unfolding relaxed_within
  within_none e = rw (none_found, e) refl

  pub hopeful_found : found ≡ true → T (feasible p no_rule)
  hopeful_found e = true→T (feasible p no_rule) (none_found ∙ e)

  module _ (e : found ≡ true) where
    pub within_short : (leb (length p.rules) short && leb subsets budget) ≡ true → tabled_relaxation p ≡ relaxed_within p budget
    unfolding relaxed_within
    within_short t = rw (none_found, e, t) refl

    pub within_long : (leb (length p.rules) short && leb subsets budget) ≡ false → explored_relaxation p budget ≡ relaxed_within p budget
    unfolding relaxed_within
    within_long t = rw (none_found, e, t) refl
