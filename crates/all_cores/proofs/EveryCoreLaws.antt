-- That the numbers listed are the cores of a short list, each once and rising, that they decide which rules may be dropped, and that
-- they are at most 924. Assumes nothing.
use Rattle.std.specs.Prelude.{◌≡◌, refl, Bool, List, drop, ℕ, ◌+◌, ◌-◌, ◌^◌, ◌≤◌, ◌<◌, T, length, get_or}
use Rattle.std.proofs.Common.{sym, ap, subst, ◌∙◌, ⊎_elim, eq-zero-or-pos, arith, length-append, length-drop, get_or-drop}
use Rattle.std.proofs.lemmas.List.{get_or-append_right}
use Rattle.std.proofs.lemmas.Nat.{pow_pos}
use Rattle.std.proofs.Math.ListN.{get_or-append}
use Rattle.sets.specs.Choice.{not→refuted, refuted→not, decided, same_test, lt_or_le}
use Rattle.sets.specs.Bounded.{without, without_other, others, subset_or, count, count-lt}
use Rattle.sets.specs.Collected.{itself, collected_length, collected_at, collected_entry}
use Rattle.sets.specs.Numbered.{numbered, number_of, number_same, number-lt, numbered_none, number_numbered}
use Rattle.sets.specs.Antichains.{Part, antichain-le, chains_twelve}
use Rattle.sets.specs.Onto.{onto}
use Rattle.taskset.specs.Model.{Lists, Sound}
use Rattle.assignment.specs.Orders.{every_rule, no_rule, SomeOrder, UnschedulabilityCore, Works}
use Rattle.assignment.specs.Audsley.{Problem, feasible, problem}
use Rattle.assignment.specs.Cores.{IsCore, rules_in}
use Rattle.assignment.specs.Decision.{Lawful, feasible_fewer}
use Rattle.assignment.proofs.Preemptive.{lawful, feasible-order}
use Rattle.assignment.proofs.CoreOrders.{rules_in_of, rules_in_was, order_from, core_found, found_core}
use Rattle.verdict.specs.CoreLaws.{core_within}
use Rattle.subsets.specs.Subsets.{short, core_number}
use Rattle.subsets.proofs.NumberedCores.{number_is, core_set_is, core_passes}
use Rattle.all_cores.specs.Enumerating.{cores_below, cores_of}
use Rattle.all_cores.specs.EveryCore.{EveryCore}

-- the cores among all sets
pub cores_whole : (p : Problem) (n : ℕ) → n ≡ 2 ^ length p.rules → cores_below p n ≡ cores_of p
unfolding cores_of
cores_whole p n e = ap (cores_below p) e

-- ---- none is part of another

module _ (p : Problem) (lawful : Lawful p) (few : length p.rules ≤ short) where
  abbrev m : ℕ
  m = length p.rules

  cores_apart : (x y : ℕ) → x < 2 ^ m → y < 2 ^ m → Part x y → T (core_number p x) → T (core_number p y) → x ≡ y
  cores_apart x y h k part s t =
      ⊎_elim
      (λ back.
      sym (number_numbered m x h)
      ∙ number_same m (numbered x) (numbered y) (λ j l. same_test (numbered x j) (numbered y j) (part j) (back j l))
      ∙ number_numbered m y k)
      (λ more.
      let (j, l, has, hasnt) = more in
      absurd
      ((core_set_is p lawful few x h s).clash
      (feasible_fewer p (numbered x) (without (numbered y) j)
      (λ i g u. without_other (numbered y) j i (λ e. hasnt (subst (λ (q : ℕ). T (numbered x q)) (sym e) u)) (part i u)) lawful
      ((core_set_is p lawful few y k t).needed j has))))
      (subset_or m (numbered y) (numbered x))

  -- so there are at most 924
  cores_most : count (2 ^ m) (core_number p) ≤ 924
  cores_most = omega (arith, antichain-le m (core_number p) cores_apart, chains_twelve m (omega (arith, few)))

  how_many : length (cores_of p) ≡ count (2 ^ m) (core_number p)
  unfolding cores_of
  how_many = collected_length (core_number p) itself (2 ^ m)

  cores-few : length (cores_of p) ≤ 924
  cores-few = omega (arith, cores_most, how_many)

  -- and there is room for each
  pub room-left : (c : ℕ) → c < 2 ^ m → T (core_number p c) → length (cores_below p c) < 924
  room-left c h t = omega (arith, collected_length (core_number p) itself c, count-lt (2 ^ m) (core_number p) c h t, cores_most)

  -- ---- the numbers in their places

  abbrev standing : ℕ → ℕ
  standing i = get_or (cores_of p) i 0

  -- a core stands behind those before it
  entry_of : (c : ℕ) → c < 2 ^ m → T (core_number p c) → standing (count c (core_number p)) ≡ c
  unfolding cores_of
  entry_of c h t = collected_at (core_number p) itself (2 ^ m) c 0 h t

  -- and nothing but a core stands there
  record Stands (i c : ℕ) : Type 0 where
    pub below : c < 2 ^ length p.rules
    pub passes : T (core_number p c)
    pub behind : count c (core_number p) ≡ i
    pub at : get_or (cores_of p) i 0 ≡ c

  stands : (i : ℕ) → i < length (cores_of p) → (c : ℕ) × Stands i c
  stands i h = go (collected_entry (core_number p) itself (2 ^ m) i (omega (arith, h, how_many, collected_length (core_number p) itself (2 ^ m))))
    where
      go : (c : ℕ) × (c < 2 ^ m) × T (core_number p c) × (count c (core_number p) ≡ i) → (c : ℕ) × Stands i c
      go (c, l, t, e) = (c, record { below = l; passes = t; behind = e; at = ap standing (sym e) ∙ entry_of c l t })

  entries_rise : (i j : ℕ) → i < j → j < length (cores_of p) → standing i < standing j
  entries_rise i j less h = go (stands i (omega (arith, less, h))) (stands j h)
    where
      go : (c : ℕ) × Stands i c → (d : ℕ) × Stands j d → standing i < standing j
      go (c, s) (d, t) =
          let rise : c < d = ⊎_elim (λ l. l) (λ g. ⊎_elim
          (λ l. let back = count-lt c (core_number p) d l t.passes in absurd (omega (arith, back, s.behind, t.behind, less)))
          (λ le. let same : c ≡ d = omega (arith, g, le) in absurd (omega (arith, ap (λ (q : ℕ). count q (core_number p)) same, s.behind, t.behind, less)))
          (lt_or_le d c)) (lt_or_le c d) in
          omega (arith, s.at, t.at, rise)

-- ---- what a sceptic finds

module _ (l : Lists) (sound : Sound l) (few : length l.rules ≤ short) (was : List ℕ) (room : 924 ≤ length was) where
  abbrev p : Problem
  p = problem l

  abbrev law : Lawful p
  law = lawful l sound

  abbrev found : List ℕ
  found = cores_of p

  abbrev buffer : List ℕ
  buffer = onto found was

  abbrev in_buffer : ℕ → ℕ
  in_buffer i = get_or buffer i 0

  within_room : length found ≤ length was
  within_room = omega (arith, cores-few p law few, room)

  front_is : (i : ℕ) → i < length found → in_buffer i ≡ get_or found i 0
  front_is i h = get_or-append found (drop (length found) was) 0 i h

  rest_is : (i : ℕ) → length found ≤ i → in_buffer i ≡ get_or was i 0
  rest_is i over =
      let at : length found + (i - length found) ≡ i = omega (arith, over) in
      get_or-append_right found (drop (length found) was) (length found) i 0 refl over
      ∙ get_or-drop (length found) was (i - length found) 0
      ∙ ap (λ (j : ℕ). get_or was j 0) at

  size_is : length buffer ≡ length was
  size_is = omega (arith, length-append found (drop (length found) was), length-drop (length found) was, within_room)

  -- what stands at a place
  stands_there : (i : ℕ) → i < length found → (c : ℕ) × Stands p law few i c × (in_buffer i ≡ c)
  stands_there i h = let (c, s) = stands p law few i h in (c, s, front_is i h ∙ s.at)

  by_listed : (P : ℕ → Type 0) (i : ℕ) → i < length found → ((c : ℕ) → Stands p law few i c → P c) → P (in_buffer i)
  by_listed P i h each = let (c, s, e) = stands_there i h in subst P (sym e) (each c s)

  core_stands : (i : ℕ) → i < length found → UnschedulabilityCore l (numbered (in_buffer i))
  core_stands i h =
      by_listed (λ c. UnschedulabilityCore l (numbered c)) i h (λ c s. core_found l sound (numbered c) (core_set_is p law few c s.below s.passes))

  -- a core has a place
  place_of : (A : ℕ → Bool) → IsCore p A → (i : ℕ) × (i < length found) × (in_buffer i ≡ number_of (length l.rules) A)
  place_of A core =
      let c = number_of (length l.rules) A in
      let h = number-lt (length l.rules) A in
      let t = core_passes p law few A core in
      let i = count c (core_number p) in
      let inside : i < length found = omega (arith, how_many p law few, count-lt (2 ^ length l.rules) (core_number p) c h t) in
      (i, inside, front_is i inside ∙ entry_of p law few c h t)

  core_listed : (A : ℕ → Bool) → UnschedulabilityCore l A → (i : ℕ) × (i < length found) × (in_buffer i ≡ number_of (length l.rules) A)
  core_listed A core =
      let (i, h, e) = place_of (rules_in p A) (found_core l sound A core) in
      (i, h, e ∙ number_same (length l.rules) (rules_in p A) A (λ k g. same_test (rules_in p A k) (A k) (rules_in_was p A k) (rules_in_of p A k g)))

  rising : (i j : ℕ) → i < j → j < length found → in_buffer i < in_buffer j
  rising i j less h = omega (arith, entries_rise p law few i j less h, front_is i (omega (arith, less, h)), front_is j h)

  once : (i j : ℕ) → i < length found → j < length found → in_buffer i ≡ in_buffer j → i ≡ j
  once i j h g e =
      ⊎_elim (λ less. absurd (omega (arith, rising i j less g, e)))
      (λ le. ⊎_elim (λ less. absurd (omega (arith, rising j i less h, e))) (λ ge. omega (arith, le, ge)) (lt_or_le j i))
      (lt_or_le i j)

  -- ---- which rules may be dropped

  abbrev Shares : (ℕ → Bool) → Type 0
  Shares X = (i : ℕ) → i < length found → (k : ℕ) × (k < length l.rules) × T (X k) × T (numbered (in_buffer i) k)

  shares_each : (X : ℕ → Bool) → Works l X → Shares X
  shares_each X works i h =
      ⊎_elim
      (λ part. absurd ((core_stands i h).clash (order_from l sound (numbered (in_buffer i)) (others X) part ((feasible-order l sound (others X)).1 works))))
      (λ more. let (k, g, has, out) = more in (k, g, ⊎_elim (λ x. x) (λ f. absurd (out (refuted→not (X k) f))) (decided (X k)), has))
      (subset_or (length l.rules) (numbered (in_buffer i)) (others X))

  works_by : (X : ℕ → Bool) → Shares X → Works l X
  works_by X shares = ⊎_elim (λ t. (feasible-order l sound (others X)).0 t) stuck (decided (feasible p (others X)))
    where
      stuck : (T (feasible p (others X)) → ⊥) → Works l X
      stuck hopeless =
          let (A, core, within) = core_within p law (others X) hopeless in
          let (i, h, e) = place_of A core in
          let (k, g, x, s) = shares i h in
          let member = subst (λ (B : ℕ → Bool). T (B k)) (ap numbered e ∙ number_is p law few A core.inside) s in
          absurd (not→refuted (X k) (within k member) x)

  -- ---- none, and the empty one

  no_members : (k : ℕ) → T (numbered 0 k) → ⊥
  no_members k t = subst (λ (A : ℕ → Bool). T (A k)) numbered_none t

  hopeless_one : (SomeOrder l no_rule → ⊥) → (length found ≡ 1) × (in_buffer 0 ≡ 0)
  hopeless_one hopeless =
      let empty : IsCore p no_rule =
      record { clash = λ t. hopeless ((feasible-order l sound no_rule).0 t); needed = λ k t. absurd t; inside = λ k t. absurd t } in
      let zero_is = number_same (length l.rules) no_rule (numbered 0) (λ k h. ap (λ (A : ℕ → Bool). A k) (sym numbered_none)) ∙ number_numbered (length l.rules) 0 (pow_pos (length l.rules)) in
      let (i, h, e) = place_of no_rule empty in
      let first : i ≡ 0 = ⊎_elim (λ z. z) (λ some. absurd (omega (arith, rising 0 i some h, e, zero_is))) (eq-zero-or-pos i) in
      let alone : length found ≤ 1 =
      ⊎_elim
      (λ more.
      let (c, s, at) = stands_there 1 more in
      let (z, b, zat) = stands_there 0 (omega (arith, more)) in
      let z_is : z ≡ 0 = omega (arith, sym zat, ap in_buffer (sym first), e, zero_is) in
      let same = cores_apart p law few z c b.below s.below (λ k t. absurd (no_members k (subst (λ (q : ℕ). T (numbered q k)) z_is t))) b.passes s.passes in
      absurd (omega (arith, rising 0 1 (omega arith) more, at, zat, same)))
      (λ le. le) (lt_or_le 1 (length found)) in
      (omega (arith, h, alone), ap in_buffer (sym first) ∙ e ∙ zero_is)

  one_hopeless : (length found ≡ 1) × (in_buffer 0 ≡ 0) → SomeOrder l no_rule → ⊥
  one_hopeless both o =
      let core = core_stands 0 (omega (arith, both.0)) in
      core.clash
      (order_from l sound (numbered (in_buffer 0)) no_rule
      (λ k h t. absurd (no_members k (subst (λ (q : ℕ). T (numbered q k)) both.1 t))) ((feasible-order l sound no_rule).1 o))

  kept_none : SomeOrder l every_rule → length found ≡ 0
  kept_none o =
      ⊎_elim (λ z. z)
      (λ some. absurd ((core_stands 0 some).clash (order_from l sound (numbered (in_buffer 0)) every_rule (λ k h t. tt) ((feasible-order l sound every_rule).1 o))))
      (eq-zero-or-pos (length found))

  none_kept : length found ≡ 0 → SomeOrder l every_rule
  none_kept none = works_by no_rule (λ i h. absurd (omega (arith, h, none)))

  pub every_core : EveryCore l (length found) was buffer
  every_core =
      record {
        cores = core_stands;
        rules = λ i h. by_listed (λ c. c < 2 ^ length l.rules) i h (λ c s. s.below);
        all = core_listed;
        once = once;
        rising = rising;
        front = within_room;
        size = size_is;
        rest = rest_is;
        drops = λ X. (shares_each X, works_by X);
        hopeless = (hopeless_one, one_hopeless);
        none = (kept_none, none_kept);
        most = cores-few p law few;
      }
