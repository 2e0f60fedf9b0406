-- Laws of what is kept up from level to level: the tasks below a level are the same for each task left, and so are the resources
-- that it and the tasks above it use; so is its blocking. Assumes nothing.
use Rattle.std.specs.Prelude.{◌≡◌, Bool, true, false, not, List, [], ◌++◌, drop, replicate, ◌⊎◌, eqb, ltb, length, get_or}
use Rattle.std.proofs.Math.Path.{refl, ap, subst}
use Rattle.std.proofs.Common.{sym, ◌∙◌, eq-or-lt_of_le, eq-zero-or-pos, eqb→eq, lt→ltb, eq-eqb, ltb-false, lt-ltb, le-ltb}
use Rattle.std.proofs.Math.Logic.{inl, inr, ⊎_elim}
use Prim.Native.Nat.{ℕ, ◌+◌, ◌-◌, ◌≤◌, ◌<◌, max}
use Rattle.std.proofs.lemmas.List.{length-replicate, get_or-replicate}
use native.Mathlib.Omega.{arith}
use Rattle.std.proofs.Math.Dec.{T, ltb→lt}
use Rattle.sets.specs.Choice.{pick, and_intro, and_left, and_right, not→refuted, refuted→not, refuted→false, false→refuted, true→T, decided}
use Rattle.sets.specs.Bounded.{Subset, without, without_still, without_other, any, any_of, any_found, count}
use Rattle.sets.specs.Bounded.{count_none, count-more, count-le, count_mono, count_less, count_but, count_pos, count-zero}
use Rattle.sets.specs.Maximum.{maximum, maximum-none, maximum-more, maximum_at, maximum_found, maximum-le, maximum_same}
use Rattle.sets.specs.Marks.{length-table, get_or-table, written-table}
use Rattle.taskset.specs.declared.Task.{Task}
use Rattle.taskset.specs.Refusals.{resources, section_on, uses_none}
use Rattle.taskset.specs.RefusalLaws.{none_used}
use Rattle.taskset.specs.Model.{task_at}
use Rattle.response.specs.declared.blocking.Resources.{Resources}
use Rattle.response.specs.declared.blocking.Usage.{Usage}
use Rattle.response.specs.Blocking.{uses, MayBlock}
use Rattle.response.proofs.BlockingLaws.{blocking_exactly}
use Rattle.response.specs.Resources.{BlocksEach, UnusedFrom, users_left, users_on, levelled, lengths, held_on, usage_of, Tracks, no_usage, blocking_by}

-- a resource's usage once a task left has taken a level
abbrev pub usage_after : Task → ℕ → Usage → Usage
usage_after t k u = record { users = u.users - pick (uses t k) 1 0; held = max u.held (section_on t k) }

-- u is that of the first n tasks
pub record UsageTo (tasks : List Task) (left : ℕ → Bool) (k n : ℕ) (u : Usage) : Type 0 where
  pub users : u.users ≡ count n (users_left tasks left k)
  pub held : u.held ≡ maximum n (levelled left) (lengths tasks k)

same_usage : {u v : Usage} → u.users ≡ v.users → u.held ≡ v.held → u ≡ v
same_usage users held i = record { users = users i; held = held i }

-- ---- it is that of the level

module _ (tasks : List Task) (left : ℕ → Bool) (used : ℕ) (few : used ≤ resources) (rest : UnusedFrom tasks used) where
  abbrev n : ℕ
  n = length tasks

  abbrev left_uses : ℕ → Bool
  left_uses k = ltb 0 (users_on tasks left k)

  abbrev most : ℕ
  most = maximum used left_uses (held_on tasks left)

  module _ (i : ℕ) (h : i < n) (on : T (left i)) where
    abbrev above : ℕ → Bool
    above = without left i

    -- one of the tasks left is task i or above it, and any other is below it
    near : (j : ℕ) → j < n → T (left j) → (j ≡ i) ⊎ ((j < n) × T (above j))
    near j l t =
        ⊎_elim (λ e. inl (sym (eqb→eq i j e)))
        (λ out. inr (l, without_other left i j (λ e. out (true→T (eqb i j) (eq-eqb i j e))) t)) (decided (eqb i j))

    is_left_lem : (j : ℕ) → (j ≡ i) ⊎ ((j < n) × T (above j)) → (j < n) × T (left j)
    is_left_lem j = ⊎_elim (λ e. (omega arith, subst (λ (k : ℕ). T (left k)) (sym e) on)) (λ a. (a.0, (without_still left i j a.1).0))

    longest : (section : ℕ) → MayBlock tasks i above section → section ≤ most
    unfolding users_on held_on
    longest section m =
        let j = m.holder in
        let k = m.resource in
        let u = is_left_lem m.user m.near in
        let out : T (left j) → ⊥ = λ t. m.not_above (without_other left i j (λ e. m.not_itself (sym e)) t) in
        let here = maximum_at n (levelled left) (lengths tasks k) j m.inside (refuted→not (left j) out) in
        ⊎_elim
        (λ l.
        let top = maximum_at used left_uses (held_on tasks left) k (ltb→lt k used l)
        (any_of n (users_left tasks left k) m.user u.0 (and_intro (left m.user) _ u.1 m.used)) in
        omega (arith, m.held, here, top))
        (λ out. omega (arith, m.held, rest j k m.inside (ltb-false k used (refuted→false (ltb k used) out)) m.known))
        (decided (ltb k used))

    found : (most ≡ 0) ⊎ MayBlock tasks i above most
    unfolding users_on held_on
    found =
        ⊎_elim (λ z. inl z)
        (λ r.
        let k = r.0 in
        ⊎_elim (λ z. inl (sym r.3 ∙ z))
        (λ s.
        let j = s.0 in
        let out = not→refuted (left j) s.2 in
        let u = any_found n (users_left tasks left k) r.2 in
        inr
        (record {
          holder = j;
          inside = s.1;
          not_above = λ t. out (without_still left i j t).0;
          not_itself = λ e. out (subst (λ (q : ℕ). T (left q)) (sym e) on);
          resource = k;
          known = omega (arith, r.1, few);
          held = s.3 ∙ r.3;
          user = u.0;
          near = near u.0 u.1 (and_left (left u.0) _ u.2);
          used = and_right (left u.0) _ u.2;
        }))
        (maximum_found n (levelled left) (lengths tasks k)))
        (maximum_found used left_uses (held_on tasks left))

  most_level : BlocksEach tasks left left most
  most_level i h on = (blocking_exactly tasks i (without left i) most).0 (record { longest = longest i h on; found = found i h on })

module _ {tasks : List Task} {left : ℕ → Bool} {r : Resources} (t : Tracks tasks left r) where
  pub tracks_long : length r.usage ≡ resources
  tracks_long = ap length t.usage ∙ length-table resources (usage_of tasks left)

  pub usage_at : (k : ℕ) → k < resources → get_or r.usage k no_usage ≡ usage_of tasks left k
  usage_at k h = rw t.usage (get_or-table resources (usage_of tasks left) no_usage k h)

  pub blocking_level : BlocksEach tasks left left (blocking_by r)
  unfolding blocking_by
  blocking_level =
      subst (BlocksEach tasks left left)
      (sym (maximum_same r.used _ _ _ _ (λ k l. let same = usage_at k (omega (arith, l, t.few)) in (ap (λ u. ltb 0 u.users) same, ap (λ u. u.held) same))))
      (most_level tasks left r.used t.few t.rest)

-- ---- of the resources from `used` on there is nothing to keep

module _ (tasks : List Task) (left : ℕ → Bool) (used : ℕ) (rest : UnusedFrom tasks used) (k : ℕ) (over : used ≤ k) (known : k < resources) where
  users_unused : users_on tasks left k ≡ 0
  unfolding users_on
  users_unused =
      count-zero (length tasks) (users_left tasks left k)
      (λ j h t. omega (arith, rest j k h over known, ltb→lt 0 (lengths tasks k j) (and_right (left j) (uses (task_at tasks j) k) t)))

  held_unused : held_on tasks left k ≡ 0
  unfolding held_on
  held_unused =
      let none = maximum-le (length tasks) (levelled left) (lengths tasks k) 0 (λ j h t. omega (arith, rest j k h over known)) in
      omega arith

  pub usage_unused : usage_of tasks left k ≡ no_usage
  usage_unused = same_usage users_unused held_unused

-- ---- after a task left has taken a level

module _ (tasks : List Task) (left : ℕ → Bool) (i : ℕ) (h : i < length tasks) (on : T (left i)) (k : ℕ) where
  abbrev now : ℕ → Bool
  now = without left i

  users_fewer : Subset (length tasks) (users_left tasks now k) (users_left tasks left k)
  users_fewer j l t = and_intro (left j) _ (without_still left i j (and_left (now j) _ t)).0 (and_right (now j) _ t)

  pub users_some : T (uses (task_at tasks i) k) → 1 ≤ users_on tasks left k
  unfolding users_on
  users_some t = count_pos (length tasks) (users_left tasks left k) i h (and_intro (left i) _ on t)

  users_next : users_on tasks now k ≡ users_on tasks left k - pick (uses (task_at tasks i) k) 1 0
  unfolding users_on
  users_next = go (uses (task_at tasks i) k) refl
    where
      still : (j : ℕ) → T (users_left tasks left k j) → (i ≡ j → ⊥) → T (users_left tasks now k j)
      still j t apart = and_intro (now j) _ (without_other left i j apart (and_left (left j) _ t)) (and_right (left j) _ t)

      gone : T (users_left tasks now k i) → ⊥
      gone t = (without_still left i i (and_left (now i) _ t)).1 refl

      go : (b : Bool) → uses (task_at tasks i) k ≡ b
          → count (length tasks) (users_left tasks now k) ≡ count (length tasks) (users_left tasks left k) - pick b 1 0
      go true e =
          let own = and_intro (left i) _ on (true→T _ e) in
          let less = count_less (length tasks) (users_left tasks now k) (users_left tasks left k) users_fewer i h own gone in
          let but =
          count_but (length tasks) (users_left tasks now k) (users_left tasks left k) i (λ j l t apart. still j t (λ e. apart (sym e))) in
          omega (arith, less, but)
      go false e =
          let less = count_mono (length tasks) (users_left tasks now k) (users_left tasks left k) users_fewer in
          let more =
          count_mono (length tasks) (users_left tasks left k) (users_left tasks now k)
          (λ j l t. still j t (λ same. false→refuted _ e (subst (λ (q : ℕ). T (uses (task_at tasks q) k)) (sym same) (and_right (left j) _ t)))) in
          omega (arith, less, more)

  held_next : held_on tasks now k ≡ max (held_on tasks left k) (section_on (task_at tasks i) k)
  unfolding held_on
  held_next =
      let held = maximum (length tasks) (levelled left) (lengths tasks k) in
      let later = maximum (length tasks) (levelled now) (lengths tasks k) in
      let own = section_on (task_at tasks i) k in
      let up : later ≤ max held own =
      maximum-le (length tasks) (levelled now) (lengths tasks k) (max held own)
      (λ j l t. ⊎_elim
      (λ e. let same = ap (λ (q : ℕ). section_on (task_at tasks q) k) (eqb→eq i j e) in omega (arith, same))
      (λ apart.
      let out : T (left j) → ⊥ = λ s. not→refuted (now j) t (without_other left i j (λ e. apart (true→T (eqb i j) (eq-eqb i j e))) s) in
      omega (arith, maximum_at (length tasks) (levelled left) (lengths tasks k) j l (refuted→not (left j) out)))
      (decided (eqb i j))) in
      let same : held ≤ later =
      maximum-le (length tasks) (levelled left) (lengths tasks k) later
      (λ j l t. maximum_at (length tasks) (levelled now) (lengths tasks k) j l
      (refuted→not (now j) (λ s. not→refuted (left j) t (without_still left i j s).0))) in
      let mine : own ≤ later =
      maximum_at (length tasks) (levelled now) (lengths tasks k) i h
      (refuted→not (now i) (λ s. (without_still left i i s).1 refl)) in
      omega (arith, up, same, mine)

  pub usage_next : usage_of tasks now k ≡ usage_after (task_at tasks i) k (usage_of tasks left k)
  usage_next = same_usage users_next held_next

-- ---- as the code finds them

-- no resource is used where every task uses none
pub unused_all : (tasks : List Task) → any (length tasks) (λ j. not (uses_none (task_at tasks j))) ≡ false → UnusedFrom tasks 0
unused_all tasks e j k h over known =
    none_used (task_at tasks j)
    (⊎_elim (λ t. t) (λ out. absurd (false→refuted _ e (any_of (length tasks) _ j h (refuted→not _ out)))) (decided (uses_none (task_at tasks j))))
    k known

-- one resource more that no task uses
pub unused_next : (tasks : List Task) (used : ℕ) → UnusedFrom tasks used → 0 < used
    → any (length tasks) (λ j. uses (task_at tasks j) (used - 1)) ≡ false → UnusedFrom tasks (used - 1)
unused_next tasks used rest some e j k h over known = ⊎_elim here (λ l. rest j k h (omega arith) known) (eq-or-lt_of_le over)
  where
    here : used - 1 ≡ k → section_on (task_at tasks j) k ≡ 0
    here same =
        ⊎_elim (λ z. z)
        (λ t.
        absurd (false→refuted _ e
        (any_of (length tasks) (λ q. uses (task_at tasks q) (used - 1)) j h (rw same (lt→ltb 0 (section_on (task_at tasks j) k) t)))))
        (eq-zero-or-pos (section_on (task_at tasks j) k))

-- what a loop over the tasks makes
pub usage_none : (tasks : List Task) (left : ℕ → Bool) (k : ℕ) {u : Usage} → (u.users ≡ 0) × (u.held ≡ 0) → UsageTo tasks left k 0 u
usage_none tasks left k z =
    record { users = z.0 ∙ sym (count_none (users_left tasks left k)); held = z.1 ∙ sym (maximum-none (levelled left) (lengths tasks k)) }

module _ {tasks : List Task} {left : ℕ → Bool} {k n : ℕ} {u : Usage} (s : UsageTo tasks left k n u) where
  pub users_few : u.users ≤ n
  users_few = omega (arith, s.users, count-le n (users_left tasks left k))

  pub usage_more_left : {t : Task} → t ≡ task_at tasks n → left n ≡ true
      → UsageTo tasks left k (n + 1) (record { users = u.users + pick (uses t k) 1 0; held = u.held })
  usage_more_left at e =
      record {
        users = rw (count-more n (users_left tasks left k), e, at, s.users);
        held = rw (maximum-more n (levelled left) (lengths tasks k), e, s.held) (omega arith);
      }

  pub usage_more_levelled : {t : Task} → t ≡ task_at tasks n → left n ≡ false
      → UsageTo tasks left k (n + 1) (record { users = u.users; held = max u.held (section_on t k) })
  usage_more_levelled at e =
      record {
        users = rw (count-more n (users_left tasks left k), e, s.users) (omega arith);
        held = rw (maximum-more n (levelled left) (lengths tasks k), e, at, s.held);
      }

  pub usage_whole : n ≡ length tasks → u ≡ usage_of tasks left k
  unfolding users_on held_on
  usage_whole e = same_usage (rw e at s.users) (rw e at s.held)

-- what a loop over what is kept makes: the blocking on the first n resources
abbrev pub blocking_to : List Usage → ℕ → ℕ
blocking_to usage n = maximum n (λ k. ltb 0 (get_or usage k no_usage).users) (λ k. (get_or usage k no_usage).held)

module _ (usage : List Usage) (n : ℕ) {b : ℕ} (so_far : b ≡ blocking_to usage n) {u : Usage} (at : u ≡ get_or usage n no_usage) where
  pub blocking_used : 0 < u.users → max b u.held ≡ blocking_to usage (n + 1)
  blocking_used h = rw (maximum-more n _ _, so_far, ← at, lt-ltb 0 u.users h)

  pub blocking_unused : u.users ≤ 0 → b ≡ blocking_to usage (n + 1)
  blocking_unused h = rw (maximum-more n _ _, ← so_far, ← at, le-ltb 0 u.users h) (omega arith)

pub blocking_whole : (r : Resources) → blocking_to r.usage r.used ≡ blocking_by r
unfolding blocking_by
blocking_whole r = refl

-- what a loop over the used resources makes: of a level
pub tracks_at : (tasks : List Task) (left : ℕ → Bool) (used : ℕ) {none : Usage} (front : List Usage) → used ≤ resources → UnusedFrom tasks used
    → (none.users ≡ 0) × (none.held ≡ 0) → length front ≡ used → ((k : ℕ) → k < used → get_or front k no_usage ≡ usage_of tasks left k)
    → Tracks tasks left (record { used = used; usage = front ++ drop used (replicate resources none) })
tracks_at tasks left used {none} front few rest zero cut done =
    record {
      few = few;
      rest = rest;
      usage =
          written-table resources used (usage_of tasks left) no_usage front (replicate resources none) cut few (length-replicate resources none)
          done
          (λ k over known.
          get_or-replicate resources k none no_usage known ∙ same_usage zero.0 zero.1 ∙ sym (usage_unused tasks left used rest k over known));
    }

module _ {tasks : List Task} {left : ℕ → Bool} {r : Resources} (t : Tracks tasks left r) (i : ℕ) (h : i < length tasks) (on : T (left i)) where
  -- a user is there to be taken away
  pub users_enough : (k : ℕ) → k < resources → pick (uses (task_at tasks i) k) 1 0 ≤ (get_or r.usage k no_usage).users
  users_enough k known = rw (usage_at t k known) (go (uses (task_at tasks i) k) (users_some tasks left i h on k))
    where
      go : (b : Bool) → (T b → 1 ≤ users_on tasks left k) → pick b 1 0 ≤ users_on tasks left k
      go true f = f tt
      go false f = omega arith

  -- past the used resources an entry stays
  past : (k : ℕ) → r.used ≤ k → k < resources → get_or r.usage k no_usage ≡ usage_of tasks (without left i) k
  past k over known =
      usage_at t k known
      ∙ usage_unused tasks left r.used t.rest k over known
      ∙ sym (usage_unused tasks (without left i) r.used t.rest k over known)

  -- and of the next one
  pub tracks_after : (front : List Usage) → length front ≡ r.used
      → ((k : ℕ) → k < r.used → get_or front k no_usage ≡ usage_after (task_at tasks i) k (get_or r.usage k no_usage))
      → Tracks tasks (without left i) (record { used = r.used; usage = front ++ drop r.used r.usage })
  tracks_after front cut done =
      record {
        few = t.few;
        rest = t.rest;
        usage =
            written-table resources r.used (usage_of tasks (without left i)) no_usage front r.usage cut t.few (tracks_long t)
            (λ k l. done k l ∙ ap (usage_after (task_at tasks i) k) (usage_at t k (omega (arith, l, t.few))) ∙ sym (usage_next tasks left i h on k))
            past;
      }

  -- where no task uses any, nothing changes
  pub tracks_unused : r.used ≤ 0 → Tracks tasks (without left i) r
  tracks_unused none =
      record {
        few = t.few;
        rest = t.rest;
        usage =
            written-table resources 0 (usage_of tasks (without left i)) no_usage [] r.usage refl (omega arith) (tracks_long t)
            (λ k l. absurd (omega arith)) (λ k over. past k (omega arith));
      }
