-- Sets of rules by their numbers: every set of rules is a numbered one, and the test of a core says what the words say. Assumes nothing.
use Rattle.std.specs.Prelude.{◌≡◌, refl, Bool, true, false, ◌&&◌, not, ℕ, ◌-◌, ◌^◌, ◌≤◌, ◌<◌, T, length}
use Rattle.std.proofs.Common.{sym, ap, subst, ◌∙◌, ⊎_elim, arith}
use Rattle.std.proofs.Math.Path.{fun_ext}
use Rattle.sets.specs.Choice.{true→T, refuted→false, false→refuted, not→refuted, refuted→not, decided, lt_or_le, and_intro, and_left, and_right}
use Rattle.sets.specs.Bounded.{without, any, any_found, any_of}
use Rattle.sets.specs.Numbered.{numbered, number_of, number-lt, numbered-lt, numbered_beyond, numbered_number, numbered_without}
use Rattle.assignment.specs.Audsley.{Problem, feasible}
use Rattle.assignment.specs.Cores.{IsCore}
use Rattle.assignment.specs.Decision.{Lawful, feasible_fewer}
use Rattle.subsets.specs.Subsets.{short, feasible_set, fails_without, ruled_out, core_set}

-- a table has what the sets are, and a core is told by those up to it
fails_same : (p : Problem) (found : ℕ → Bool) (c : ℕ) → ((d : ℕ) → d < c → found d ≡ feasible_set p d) → (k : ℕ)
    → fails_without found c k ≡ fails_without (feasible_set p) c k
fails_same p found c below k = go (numbered c k) refl
  where
    go : (b : Bool) → numbered c k ≡ b → (b && not (found (c - 2 ^ k))) ≡ (b && not (feasible_set p (c - 2 ^ k)))
    go true e = ap not (below (c - 2 ^ k) (numbered-lt c k (true→T _ e)))
    go false e = refl

pub core_same : (p : Problem) (found : ℕ → Bool) (n c : ℕ) → ((d : ℕ) → d < n → found d ≡ feasible_set p d) → c < n
    → core_set found c ≡ core_set (feasible_set p) c
unfolding ruled_out
core_same p found n c known h =
    let ruled = ap (any short) (fun_ext (fails_same p found c (λ d l. known d (omega (arith, h, l))))) in
    rw (known c h, ruled) refl

module _ (p : Problem) (lawful : Lawful p) (few : length p.rules ≤ short) where
  abbrev m : ℕ
  m = length p.rules

  -- ---- every set of rules is a numbered one

  pub number_works : (A : ℕ → Bool) → T (feasible p A) → T (feasible_set p (number_of m A))
  number_works A t =
      feasible_fewer p (numbered (number_of m A)) A (λ k h s. subst (λ (b : Bool). T b) (numbered_number m A k h) s) lawful t

  works_number : (A : ℕ → Bool) → T (feasible_set p (number_of m A)) → T (feasible p A)
  works_number A t =
      feasible_fewer p A (numbered (number_of m A)) (λ k h s. subst (λ (b : Bool). T b) (sym (numbered_number m A k h)) s) lawful t

  -- and the very set, where it has no other members than rules
  pub number_is : (A : ℕ → Bool) → ((k : ℕ) → T (A k) → k < m) → numbered (number_of m A) ≡ A
  number_is A inside =
      fun_ext (λ k. ⊎_elim (numbered_number m A k)
      (λ g. numbered_beyond m (number_of m A) k (number-lt m A) g ∙ sym (refuted→false (A k) (λ t. let h = inside k t in absurd (omega (arith, g, h)))))
      (lt_or_le k m))

  numbered_inside : (c : ℕ) → c < 2 ^ m → (k : ℕ) → T (numbered c k) → k < m
  numbered_inside c h k t =
      ⊎_elim (λ l. l) (λ g. absurd (false→refuted (numbered c k) (numbered_beyond m c k h g) t)) (lt_or_le k m)

  -- ---- cores by their numbers

  -- the test says what the words say
  pub core_set_is : (c : ℕ) → c < 2 ^ m → T (core_set (feasible_set p) c) → IsCore p (numbered c)
  unfolding ruled_out
  core_set_is c h t =
      let unsolved = and_left (not (feasible_set p c)) (not (ruled_out (feasible_set p) c)) t in
      let unruled = and_right (not (feasible_set p c)) (not (ruled_out (feasible_set p) c)) t in
      record {
        clash = not→refuted (feasible_set p c) unsolved;
        needed = λ k s. ⊎_elim (λ u. subst (λ (A : ℕ → Bool). T (feasible p A)) (numbered_without c k s) u)
            (λ f.
            absurd
            (not→refuted (ruled_out (feasible_set p) c) unruled
            (any_of short (fails_without (feasible_set p) c) k (let l = numbered_inside c h k s in omega (arith, l, few))
            (and_intro (numbered c k) (not (feasible_set p (c - 2 ^ k))) s (refuted→not (feasible_set p (c - 2 ^ k)) f)))))
            (decided (feasible_set p (c - 2 ^ k)));
        inside = numbered_inside c h;
      }

  -- and every core passes it
  pub core_passes : (A : ℕ → Bool) → IsCore p A → T (core_set (feasible_set p) (number_of m A))
  unfolding ruled_out
  core_passes A core =
      let c = number_of m A in
      let is = number_is A core.inside in
      and_intro (not (feasible_set p c)) (not (ruled_out (feasible_set p) c)) (refuted→not (feasible_set p c) (λ t. core.clash (works_number A t)))
      (refuted→not (ruled_out (feasible_set p) c)
      (λ t.
      let (k, h, both) = any_found short (fails_without (feasible_set p) c) t in
      let on = and_left (numbered c k) (not (feasible_set p (c - 2 ^ k))) both in
      let off = not→refuted (feasible_set p (c - 2 ^ k)) (and_right (numbered c k) (not (feasible_set p (c - 2 ^ k))) both) in
      off
      (subst (λ (B : ℕ → Bool). T (feasible p B)) (sym (numbered_without c k on ∙ ap (λ (B : ℕ → Bool). without B k) is))
      (core.needed k (subst (λ (B : ℕ → Bool). T (B k)) is on)))))
