-- Rules put back, the heaviest one first: what was put back has an order, and where the budget reaches for all, no other rule can be
-- put back alone. Assumes nothing.
use Rattle.std.specs.Prelude.{◌≡◌, refl, Bool, true, false, List, ◌⊎◌, ℕ, zero, suc, ◌+◌, ◌≤◌, ◌<◌, T, min, eqb, ltb, length, set}
use Rattle.std.proofs.Common.{sym, subst, ◌∙◌, inl, inr, ⊎_elim, le_refl, not-suc-le-zero, arith, eqb→eq, lt→ltb, ltb-true, ltb-false, get_or-set_same}
use Rattle.std.proofs.lemmas.List.{length-set, length-replicate}
use Rattle.sets.specs.Choice.{pick, true→T, false→refuted, refuted→false}
use Rattle.sets.specs.Bounded.{Subset, below_suc}
use Rattle.sets.specs.Marks.{marked, marked_store, marked-none}
use Rattle.taskset.specs.Refusals.{max_rules}
use Rattle.assignment.specs.Audsley.{Problem, feasible}
use Rattle.assignment.specs.Decision.{feasible_fewer}
use Rattle.relaxation.specs.declared.restore.Restoring.{Restoring}
use Rattle.relaxation.specs.Weights.{weight_at}
use Rattle.relaxation.specs.Turns.{heavy_first}
use Rattle.relaxation.specs.Restoring.{put_back, restored}
use Rattle.relaxation.proofs.Claims.{Relaxable, Restores}
use Rattle.relaxation.proofs.EachTurn.{heavy_below, heavy_each}

-- ---- a mark that was set

module _ (marks : List Bool) (k : ℕ) (inside : k < length marks) where
  -- it is there
  pub marked_there : T (marked (set marks k true) k)
  marked_there = true→T (marked (set marks k true) k) (get_or-set_same marks k true false inside)

  -- each of the others is one that was there, and all these stay
  pub marked_was : (j : ℕ) → T (marked (set marks k true) j) → (k ≡ j) ⊎ T (marked marks j)
  marked_was j t = go (eqb k j) refl (subst (λ (b : Bool). T b) (marked_store marks k true inside j) t)
    where
      go : (b : Bool) → eqb k j ≡ b → T (pick b true (marked marks j)) → (k ≡ j) ⊎ T (marked marks j)
      go true e s = inl (eqb→eq k j (true→T (eqb k j) e))
      go false e s = inr s

  pub marked_still : (j : ℕ) → T (marked marks j) → T (marked (set marks k true) j)
  marked_still j t = subst (λ (b : Bool). T b) (sym (marked_store marks k true inside j)) (go (eqb k j))
    where
      go : (b : Bool) → T (pick b true (marked marks j))
      go true = tt
      go false = t

-- what has more marks still has more when both get one
pub marked_more : (n : ℕ) (less more : List Bool) (k : ℕ) → k < length less → k < length more → Subset n (marked less) (marked more)
    → Subset n (marked (set less k true)) (marked (set more k true))
marked_more n less more k short long fewer j h t =
    ⊎_elim (λ e. subst (λ (i : ℕ). T (marked (set more k true) i)) e (marked_there more k long))
    (λ s. marked_still more k long j (fewer j h s))
    (marked_was less k short j t)

-- ---- turn after turn

module _ (p : Problem) (fit : Relaxable p) (budget : ℕ) where
  -- rule k can't be put back to these
  abbrev Refused : List Bool → ℕ → Type 0
  Refused kept k = marked kept k ≡ false → T (feasible p (marked (set kept k true))) → ⊥

  -- after n turns
  pub record Putting (n : ℕ) (r : Restoring) : Type 0 where
    pub long : length r.kept ≡ max_rules
    pub inside : (k : ℕ) → T (marked r.kept k) → k < length p.rules
    pub works : T (feasible p (marked r.kept))
    pub lesser : 1 ≤ budget → r.count ≡ min budget (n + 1)
    pub done : n < budget → (i : ℕ) → i < n → Refused r.kept (heavy_first p.rules i)

  putting_none : Putting 0 (restored p budget 0)
  unfolding restored
  putting_none =
      record {
        long = length-replicate max_rules false;
        inside = λ k t. absurd (subst (λ (A : ℕ → Bool). T (A k)) (marked-none max_rules) t);
        works = subst (λ (A : ℕ → Bool). T (feasible p A)) (sym (marked-none max_rules)) fit.hopeful;
        lesser = λ h. omega arith;
        done = λ h i l. absurd (not-suc-le-zero l);
      }

  -- a rule that can't be put back to these can't be put back to more
  refused_more : (less more : List Bool) (k : ℕ) → length less ≡ max_rules → length more ≡ max_rules → k < length p.rules
      → Subset (length p.rules) (marked less) (marked more) → Refused less k → Refused more k
  refused_more less more k short long inside fewer refused out t =
      let at : k < max_rules = omega (arith, inside, fit.few) in
      refused
      (refuted→false (marked less k) (λ s. false→refuted (marked more k) out (fewer k inside s)))
      (feasible_fewer p (marked (set less k true)) (marked (set more k true))
      (marked_more (length p.rules) less more k (omega (arith, at, short)) (omega (arith, at, long)) fewer) fit.lawful t)

  weighs : (k : ℕ) → k < length p.rules → 1 ≤ weight_at p.rules k
  weighs k h = (fit.weights k h).0

  -- one turn more
  module _ (n : ℕ) (h : n < length p.rules) (r : Restoring) (before : Putting n r) where
    abbrev turn : ℕ → ℕ
    turn = heavy_first p.rules

    turn_inside : (i : ℕ) → i ≤ n → turn i < length p.rules
    turn_inside i l = heavy_below p.rules fit.few weighs i (omega arith)

    abbrev more : List Bool
    more = set r.kept (turn n) true

    at : turn n < length r.kept
    at = omega (arith, turn_inside n (le_refl n), fit.few, before.long)

    putting_same : ltb r.count budget ≡ false → Putting (suc n) r
    putting_same e =
        let over : budget ≤ r.count = ltb-false r.count budget e in
        record {
          long = before.long;
          inside = before.inside;
          works = before.works;
          lesser = λ one. omega (arith, over, before.lesser one);
          done = λ l. absurd (omega (arith, l, over, before.lesser (omega arith)));
        }

    -- one set more was solved: what was kept stays, and rule `turn n` is kept now or can't be put back
    counted : ltb r.count budget ≡ true → (kept : List Bool) → length kept ≡ max_rules → Subset (length p.rules) (marked r.kept) (marked kept)
        → ((k : ℕ) → T (marked kept k) → k < length p.rules) → T (feasible p (marked kept)) → Refused kept (turn n)
        → Putting (suc n) (record { kept = kept; count = r.count + 1 })
    counted e kept long fewer inside works refused =
        let under : r.count < budget = ltb-true r.count budget e in
        record {
          long = long;
          inside = inside;
          works = works;
          lesser = λ one. omega (arith, under, before.lesser one);
          done = λ l. below_suc (λ i. Refused kept (turn i)) n
              (λ i g. refused_more r.kept kept (turn i) before.long long (turn_inside i (omega arith)) fewer (before.done (omega arith) i g))
              refused;
        }

    tried_next : ltb r.count budget ≡ true → (b : Bool) → feasible p (marked more) ≡ b
        → Putting (suc n) (record { kept = pick b more r.kept; count = r.count + 1 })
    tried_next e true f =
        counted e more (length-set r.kept (turn n) true ∙ before.long) (λ j l t. marked_still r.kept (turn n) at j t)
        (λ j t. ⊎_elim (λ same. subst (λ (i : ℕ). i < length p.rules) same (turn_inside n (le_refl n))) (before.inside j)
        (marked_was r.kept (turn n) at j t))
        (true→T (feasible p (marked more)) f)
        (λ out t. false→refuted (marked more (turn n)) out (marked_there r.kept (turn n) at))
    tried_next e false f =
        counted e r.kept before.long (λ j l t. t) before.inside before.works (λ out t. false→refuted (feasible p (marked more)) f t)

    putting_next : Putting (suc n) (put_back p budget r (turn n))
    unfolding put_back
    putting_next = go (ltb r.count budget) refl
      where
        go : (b : Bool) → ltb r.count budget ≡ b
            → Putting (suc n) (pick b (record { kept = pick (feasible p (marked more)) more r.kept; count = r.count + 1 }) r)
        go true e = tried_next e (feasible p (marked more)) refl
        go false e = putting_same e

  pub putting : (n : ℕ) → n ≤ length p.rules → Putting n (restored p budget n)
  unfolding restored
  putting zero h = putting_none
  putting (suc n) h = putting_next n h (restored p budget n) (putting n (omega arith))

  -- after all turns
  pub restored_restores : Restores p budget (restored p budget (length p.rules))
  restored_restores =
      record {
        long = all.long;
        inside = all.inside;
        works = all.works;
        within = λ one. omega (arith, all.lesser one);
        whole = λ l. omega (arith, l, all.lesser (omega arith));
        done = λ l k h.
            let i = heavy_each p.rules fit.few weighs k (lt→ltb k (length p.rules) h) in
            subst (Refused (restored p budget (length p.rules)).kept) i.2 (all.done l i.0 i.1);
        used = λ l one. omega (arith, l, all.lesser one);
      }
    where
      all : Putting (length p.rules) (restored p budget (length p.rules))
      all = putting (length p.rules) (le_refl (length p.rules))
