-- The steps of an exploration, as the code makes them. Assumes nothing.
use Rattle.std.proofs.Math.Path.{fun_ext}
use Rattle.std.specs.Prelude.{Option, Some, None, [], ◌≡◌, refl, Bool, true, false, ◌&&◌, ℕ, T, eqb, leb, ltb, ◌+◌, ◌≤◌, ◌<◌, length, get_or}
use Rattle.std.proofs.Common.{subst, add-one, arith, le-leb, lt-ltb, le-ltb, eq-eqb, ltb→lt, leb→le, sym, ap, eqb→eq, ◌∙◌}
use borrow.Author.Tests.{lt-leb, ne_eqb}
use Rattle.sets.specs.Choice.{pick, T→true, true→T, refuted→false, and_left, and_right}
use Rattle.sets.specs.Bounded.{others, without, greatest}
use Rattle.sets.specs.Marks.{marked}
use Rattle.sets.specs.Sum.{sum, sum_more, sum-le}
use Rattle.taskset.specs.Refusals.{max_weight}
use Rattle.taskset.specs.Model.{Lists, Sound}
use Rattle.assignment.specs.declared.Search.{Search}
use Rattle.assignment.specs.Orders.{no_rule}
use Rattle.assignment.specs.Audsley.{Problem, feasible, problem}
use Rattle.assignment.specs.Search.{Ended}
use Rattle.assignment.specs.Filling.{ended_decides}
use Rattle.assignment.proofs.Preemptive.{lawful}
use Rattle.verdict.specs.Core.{tried, cut_of}
use Rattle.relaxation.specs.declared.restore.Restoring.{Restoring}
use Rattle.relaxation.specs.declared.frontier.Open.{Open}
use Rattle.relaxation.specs.declared.frontier.Frontier.{Frontier}
use Rattle.relaxation.specs.declared.explore.Exploring.{Exploring}
use Rattle.relaxation.specs.Weights.{weight_at, cost_most}
use Rattle.relaxation.specs.Disjoint.{included, core_at}
use Rattle.relaxation.specs.Frontier.{least_of, taken}
use Rattle.relaxation.specs.Exploring.{stopped, counted, settled, changed, branching, learning, solved, looked, looking, every_open, at_start, started}
use Rattle.relaxation.specs.Restoring.{restored}
use Rattle.relaxation.proofs.Claims.{Relaxable, Restores}
use Rattle.relaxation.proofs.RestoringLaws.{restored_restores}
use Rattle.relaxation.proofs.ExploringLaws.{start_hopeless, looking_last}

-- ---- the cost of the first k rules that are not kept

module _ (l : Lists) (sound : Sound l) (kept : ℕ → Bool) (k : ℕ) where
  abbrev cost : ℕ
  cost = sum k (others kept) (weight_at l.rules)

  pub cost_small : k ≤ length l.rules → cost ≤ cost_most
  cost_small h =
      let most = sum-le k (others kept) (weight_at l.rules) max_weight (λ j g t. (sound.weights j (omega (arith, g, h))).most) in
      omega (arith, most, h, sound.few_rules)

  pub cost_next : (b : Bool) → kept k ≡ b → pick b cost (cost + weight_at l.rules k) ≡ sum (k + 1) (others kept) (weight_at l.rules)
  cost_next true e = rw (sum_more k (others kept) (weight_at l.rules), e) (omega arith)
  cost_next false e = rw (sum_more k (others kept) (weight_at l.rules), e) refl

-- ---- the core in a set

pub cut_next : (test : (ℕ → Bool) → Bool) (turn : ℕ → ℕ) (start : ℕ → Bool) (n : ℕ) (active : ℕ → Bool) → active ≡ cut_of test turn start n
    → tried test active (turn n) ≡ cut_of test turn start (n + 1)
unfolding cut_of
cut_next test turn start n active e = rw (add-one n, e) refl

-- a rule that is not there changes nothing
pub cut_absent : (test : (ℕ → Bool) → Bool) (turn : ℕ → ℕ) (start : ℕ → Bool) (n : ℕ) (active : ℕ → Bool)
    → active ≡ cut_of test turn start n → active (turn n) ≡ false → active ≡ cut_of test turn start (n + 1)
unfolding tried
cut_absent test turn start n active e absent = stays ∙ cut_next test turn start n active e
  where
    same : without active (turn n) ≡ active
    same = fun_ext (λ j. go j (eqb (turn n) j) refl)
      where
        go : (j : ℕ) (b : Bool) → eqb (turn n) j ≡ b → pick b false (active j) ≡ active j
        go j true t = sym (ap active (sym (eqb→eq (turn n) j (true→T _ t))) ∙ absent)
        go j false t = refl

    stays : active ≡ tried test active (turn n)
    stays = go (test (without active (turn n)))
      where
        go : (b : Bool) → active ≡ pick b active (without active (turn n))
        go true = refl
        go false = sym same

-- ---- a set solved, by how that ends

module _ (p : Problem) (budget : ℕ) (e : Exploring) (o : Open) where
  pub solved_spent : budget ≤ e.count → stopped e ≡ solved p budget e o
  unfolding solved
  solved_spent h = rw (le-leb budget e.count h) refl

  module _ (lasts : e.count < budget) where
    pub solved_order : feasible p (marked o.kept) ≡ true → changed (counted e 1) o ≡ solved p budget e o
    unfolding solved
    solved_order f = rw (lt-leb budget e.count lasts, f) refl

    module _ (f : feasible p (marked o.kept) ≡ false) where
      pub solved_short : budget < e.count + 1 + length p.rules → stopped (counted e 1) ≡ solved p budget e o
      unfolding solved
      solved_short h = rw (lt-leb budget e.count lasts, f, lt-ltb budget (e.count + 1 + length p.rules) h) refl

      pub solved_learns : e.count + 1 + length p.rules ≤ budget → learning p (counted e 1) o ≡ solved p budget e o
      unfolding solved
      solved_learns h = rw (lt-leb budget e.count lasts, f, le-ltb budget (e.count + 1 + length p.rules) h) refl

-- whether the search filled every level tells it
module _ (l : Lists) (sound : Sound l) (active : ℕ → Bool) (s : Search) (ended : Ended (problem l) active s) where
  pub order_found : s.free ≡ 0 → feasible (problem l) active ≡ true
  order_found z = T→true _ ((ended_decides (problem l) active (lawful l sound) s ended).0 z)

  pub order_none : (s.free ≡ 0 → ⊥) → feasible (problem l) active ≡ false
  order_none more = refuted→false _ (λ t. more ((ended_decides (problem l) active (lawful l sound) s ended).1 t))

-- ---- a set looked at

module _ (p : Problem) (budget : ℕ) (e : Exploring) where
  pub looked_none : e.frontier.n ≡ 0 → settled e ≡ looked p budget e
  unfolding looked
  looked_none z = rw (eq-eqb e.frontier.n 0 z) refl

  -- the one that costs least is taken out
  module _ (some : e.frontier.n ≡ 0 → ⊥) (o : Open) (is : o ≡ least_of e.frontier) (f : Frontier) (rest : f ≡ taken e.frontier) where
    abbrev next : Exploring
    next =
        record { frontier = f; cores = e.cores; kept = e.kept; cost = e.cost; floor = o.least; count = e.count; going = e.going }

    abbrev known : Option ℕ
    known = greatest e.cores.n (λ i. included p.rules (core_at e.cores i) (marked o.kept))

    pub looked_solves : None ≡ known → solved p budget next o ≡ looked p budget e
    unfolding looked
    looked_solves k = rw (ne_eqb e.frontier.n 0 some, rest, is, ← (rw is at k)) refl

    pub looked_branches : (i : ℕ) → Some i ≡ known → branching p next o (get_or e.cores.sets i []) ≡ looked p budget e
    unfolding looked
    looked_branches i k = rw (ne_eqb e.frontier.n 0 some, rest, is, ← (rw is at k)) refl

-- ---- of lists that adding takes

module _ (l : Lists) (sound : Sound l) (hopeful : T (feasible (problem l) no_rule)) where
  pub relaxable : Relaxable (problem l)
  relaxable =
      record {
        lawful = lawful l sound;
        few = sound.few_rules;
        weights = λ k h. let w = sound.weights k h in (w.least, w.most);
        hopeful = hopeful;
      }

  pub restores : (budget : ℕ) → Restores (problem l) budget (restored (problem l) budget (length l.rules))
  restores budget = restored_restores (problem l) relaxable budget

  -- where a rule was not put back, and the budget lasts, all rules together have no order
  pub hopeless : (budget : ℕ) → 1 ≤ budget → (e : Exploring) → e ≡ at_start (problem l) (restored (problem l) budget (length l.rules))
      → (ltb 0 e.cost && leb (e.count + length l.rules) budget) ≡ true → (o : Open) → o ≡ every_open (problem l)
      → T (feasible (problem l) (marked o.kept)) → ⊥
  hopeless budget some e is t o every works =
      let both = true→T (ltb 0 e.cost && leb (e.count + length l.rules) budget) t in
      let dear = ltb→lt 0 e.cost (and_left (ltb 0 e.cost) _ both) in
      let lasts = leb→le (e.count + length l.rules) budget (and_right (ltb 0 e.cost) _ both) in
      start_hopeless (problem l) relaxable budget (restored (problem l) budget (length l.rules)) (restores budget) some
      (subst (λ (x : Exploring). 0 < x.cost) is dear) (subst (λ (x : Exploring). x.count + length l.rules ≤ budget) is lasts)
      (subst (λ (x : Open). T (feasible (problem l) (marked x.kept))) every works)

-- ---- the first set

module _ (p : Problem) (budget : ℕ) (r : Restoring) (e : Exploring) (is : e ≡ at_start p r) where
  pub started_learns : (ltb 0 e.cost && leb (e.count + length p.rules) budget) ≡ true → learning p e (every_open p) ≡ started p budget r
  unfolding started
  started_learns t = rw is (rw (rw is at t) refl)

  pub started_stays : (ltb 0 e.cost && leb (e.count + length p.rules) budget) ≡ false → e ≡ started p budget r
  unfolding started
  started_stays t = rw is (rw (rw is at t) refl)

-- ---- one look more

pub looking_none : (p : Problem) (budget : ℕ) (e : Exploring) → e ≡ looking p budget e 0
unfolding looking
looking_none p budget e = refl

pub looking_next : (p : Problem) (budget : ℕ) (start : Exploring) (n : ℕ) (e : Exploring) → e ≡ looking p budget start n → (b : Bool) → e.going ≡ b
    → pick b (looked p budget e) e ≡ looking p budget start (n + 1)
looking_next p budget start n e is b t = rw (add-one n, looking_last p budget start n, ← is, t) refl
