-- The function `blocking_of` gives what its relation says, and nothing else does; the lowest task has none; and with fewer tasks above,
-- what blocking gains is a section of a task that is no longer above. Assumes nothing.
use Rattle.std.specs.Prelude.{◌≡◌, refl, Bool, ◌&&◌, ◌||◌, not, List, ◌⊎◌, ◌↔◌, T, eqb, ltb, length, get_or}
use Rattle.std.proofs.Common.{sym, ap₂, subst, ◌∙◌, inr, le_antisymm, arith, eqb→eq, eq-eqb}
use Rattle.std.proofs.Math.Logic.{inl, ⊎_elim}
use Rattle.std.proofs.Math.Path.{fun_ext}
use Prim.Native.Nat.{ℕ, ◌≤◌, ◌<◌}
use Rattle.sets.specs.Choice.{and_intro, and_left, and_right, or_left, or_right, or_elim, not→refuted, refuted→not, true→T, decided}
use Rattle.sets.specs.Bounded.{Subset, any, any_found, any_of}
use Rattle.sets.specs.Maximum.{maximum, maximum_at, maximum_found}
use Rattle.taskset.specs.declared.Task.{Task}
use Rattle.taskset.specs.Refusals.{resources, section_on, max_period}
use Rattle.taskset.specs.Model.{task_at, SoundTasks}
use Rattle.response.specs.Blocking.{uses, MayBlock, IsBlocking, is_below, is_used, blocking_of}

module _ (tasks : List Task) (i : ℕ) (above : ℕ → Bool) where
  abbrev n : ℕ
  n = length tasks

  abbrev used_above : ℕ → ℕ → Bool
  used_above k j = above j && uses (task_at tasks j) k

  -- the tests say what the words say
  below_of : (j : ℕ) → (T (above j) → ⊥) → (j ≡ i → ⊥) → T (is_below i above j)
  below_of j out other =
      and_intro (not (above j)) (not (eqb j i)) (refuted→not (above j) out) (refuted→not (eqb j i) (λ t. other (eqb→eq j i t)))

  used_of : (k user : ℕ) → (user ≡ i) ⊎ ((user < n) × T (above user)) → T (uses (task_at tasks user) k) → T (is_used tasks i above k)
  used_of k user near used =
      ⊎_elim (λ e. or_left (uses (task_at tasks i) k) (any n (used_above k)) (subst (λ (u : ℕ). T (uses (task_at tasks u) k)) e used))
      (λ h. or_right (uses (task_at tasks i) k) (any n (used_above k)) (any_of n (used_above k) user h.0 (and_intro (above user) _ h.1 used))) near

  used_by : (k : ℕ) → T (is_used tasks i above k)
      → (user : ℕ) × ((user ≡ i) ⊎ ((user < n) × T (above user))) × T (uses (task_at tasks user) k)
  used_by k t =
      ⊎_elim (λ own. (i, inl (λ x. i), own))
      (λ some.
      let u = any_found n (used_above k) some in
      (u.0, inr (u.1, and_left (above u.0) _ u.2), and_right (above u.0) _ u.2))
      (or_elim (uses (task_at tasks i) k) _ t)

  blocking_says : IsBlocking tasks i above (blocking_of tasks i above)
  unfolding blocking_of
  blocking_says = record { longest = longest; found = ⊎_elim (λ z. inl z) holder (maximum_found n (is_below i above) most) }
    where
      most : ℕ → ℕ
      most j = maximum resources (is_used tasks i above) (section_on (task_at tasks j))

      longest : (section : ℕ) → MayBlock tasks i above section → section ≤ maximum n (is_below i above) most
      longest section m =
          let k = m.resource in
          let here = maximum_at resources (is_used tasks i above) (section_on (task_at tasks m.holder)) k m.known
          (used_of k m.user m.near m.used) in
          let below = below_of m.holder m.not_above m.not_itself in
          omega (arith, m.held, here, maximum_at n (is_below i above) most m.holder m.inside below)

      holder : (j : ℕ) × (j < n) × T (is_below i above j) × (most j ≡ maximum n (is_below i above) most)
          → (maximum n (is_below i above) most ≡ 0) ⊎ MayBlock tasks i above (maximum n (is_below i above) most)
      holder h =
          let j = h.0 in
          ⊎_elim (λ z. inl (sym h.3 ∙ z))
          (λ r.
          let u = used_by r.0 r.2 in
          inr
          (record {
            holder = j;
            inside = h.1;
            not_above = not→refuted (above j) (and_left (not (above j)) _ h.2);
            not_itself = λ e. not→refuted (eqb j i) (and_right (not (above j)) _ h.2) (true→T (eqb j i) (eq-eqb j i e));
            resource = r.0;
            known = r.1;
            held = r.3 ∙ h.3;
            user = u.0;
            near = u.1;
            used = u.2;
          }))
          (maximum_found resources (is_used tasks i above) (section_on (task_at tasks j)))

-- of two, neither is the longer
blocking_once : {tasks : List Task} {i : ℕ} {above : ℕ → Bool} {a b : ℕ} → IsBlocking tasks i above a → IsBlocking tasks i above b → a ≤ b
blocking_once {a = a} s t = ⊎_elim (λ z. omega arith) (t.longest a) s.found

pub blocking_exactly : (tasks : List Task) (i : ℕ) (above : ℕ → Bool) (b : ℕ) → IsBlocking tasks i above b ↔ (b ≡ blocking_of tasks i above)
blocking_exactly tasks i above b = (
  λ s. let is = blocking_says tasks i above in le_antisymm (blocking_once s is) (blocking_once is s),
  λ e. subst (IsBlocking tasks i above) (sym e) (blocking_says tasks i above),
)

-- the lowest task has nothing below it, and so no blocking
pub blocking_lowest : (tasks : List Task) (i : ℕ) (above : ℕ → Bool)
    → ((j : ℕ) → j < length tasks → (j ≡ i → ⊥) → T (above j)) → blocking_of tasks i above ≡ 0
blocking_lowest tasks i above all =
    sym ((blocking_exactly tasks i above 0).0
    (record {
      longest = λ s m. absurd (m.not_above (all m.holder m.inside m.not_itself));
      found = inl (λ x. 0);
    }))

module _ {tasks : List Task} (sound : SoundTasks tasks) (i : ℕ) where
  -- it is at most some task's execution time, and so at most the longest period
  pub blocking_le : (above : ℕ → Bool) → blocking_of tasks i above ≤ max_period
  blocking_le above =
      ⊎_elim (λ z. omega arith)
      (λ m.
      let r = sound.each m.holder m.inside in
      omega (arith, m.held, r.sections m.resource m.known, r.execution, r.period))
      (blocking_says tasks i above).found

  -- with fewer tasks above it is no longer, or it is a section of a task that was above
  pub blocking_fewer : (fewer above : ℕ → Bool) → Subset (length tasks) fewer above
      → (blocking_of tasks i fewer ≤ blocking_of tasks i above)
      ⊎ ((j : ℕ) × (j < length tasks) × T (above j) × (T (fewer j) → ⊥) × (blocking_of tasks i fewer ≤ (task_at tasks j).execution))
  blocking_fewer fewer above sub = ⊎_elim (λ z. inl (omega arith)) go (blocking_says tasks i fewer).found
    where
      go : MayBlock tasks i fewer (blocking_of tasks i fewer)
          → (blocking_of tasks i fewer ≤ blocking_of tasks i above)
          ⊎ ((j : ℕ) × (j < length tasks) × T (above j) × (T (fewer j) → ⊥) × (blocking_of tasks i fewer ≤ (task_at tasks j).execution))
      go m =
          let j = m.holder in
          ⊎_elim
          (λ t. inr (j, m.inside, t, m.not_above, omega (arith, m.held, (sound.each j m.inside).sections m.resource m.known)))
          (λ out.
          inl
          ((blocking_says tasks i above).longest (blocking_of tasks i fewer)
          (record {
            holder = j;
            inside = m.inside;
            not_above = out;
            not_itself = m.not_itself;
            resource = m.resource;
            known = m.known;
            held = m.held;
            user = m.user;
            near = ⊎_elim (λ e. inl e) (λ h. inr (h.0, sub m.user h.0 h.1)) m.near;
            used = m.used;
          })))
          (decided (above j))

-- ---- it is a matter of the sections alone

module _ (i : ℕ) (above : ℕ → Bool) where
  -- the same over the sections of each of n rows
  abbrev by_sections : ℕ → (ℕ → List ℕ) → ℕ
  by_sections n sections =
      let on : ℕ → ℕ → ℕ = λ j k. get_or (sections j) k 0 in
      maximum n (is_below i above) (λ j. maximum resources (λ k. ltb 0 (on i k) || any n (λ j. above j && ltb 0 (on j k))) (on j))

  of_sections : (tasks : List Task) → blocking_of tasks i above ≡ by_sections (length tasks) (λ j. (task_at tasks j).sections)
  unfolding blocking_of section_on
  of_sections tasks = refl

  pub blocking_same : (tasks others : List Task) → length tasks ≡ length others
      → ((j : ℕ) → (task_at tasks j).sections ≡ (task_at others j).sections) → blocking_of tasks i above ≡ blocking_of others i above
  blocking_same tasks others size same =
      of_sections tasks ∙ ap₂ by_sections size (fun_ext same) ∙ sym (of_sections others)
