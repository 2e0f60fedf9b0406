-- A row of two lists changed: what holds of it and of the other rows, and that the lists are still ones that adding takes.
-- Assumes nothing.
use Rattle.std.specs.Prelude.{◌≡◌, List, ◌⊎◌, ℕ, ◌<◌, T, eqb, length, set}
use Rattle.std.proofs.Common.{sym, subst, inl, inr, eqb→eq, get_or-set_same, get_or-set_other, length-set}
use Rattle.std.proofs.Math.Dec.{eqb_refl}
use Rattle.sets.specs.Choice.{decided}
use Rattle.taskset.specs.declared.Task.{Task}
use Rattle.taskset.specs.Refusals.{InRanges}
use Rattle.taskset.specs.Model.{Lists, no_task, task_at, Sound}

module _ (tasks : List Task) (i : ℕ) (here : i < length tasks) (row : Task) where
  pub row_changed : task_at (set tasks i row) i ≡ row
  row_changed = get_or-set_same tasks i row no_task here

  pub row_kept : (j : ℕ) → (j ≡ i → ⊥) → task_at (set tasks i row) j ≡ task_at tasks j
  row_kept j apart = get_or-set_other tasks i j row no_task apart

  -- what holds of it and of the others holds of each
  pub each_row : (P : ℕ → Task → Type 0) → P i row → ((j : ℕ) → (j ≡ i → ⊥) → P j (task_at tasks j)) → (j : ℕ)
      → P j (task_at (set tasks i row) j)
  each_row P own others j = go (decided (eqb j i))
    where
      go : T (eqb j i) ⊎ (T (eqb j i) → ⊥) → P j (task_at (set tasks i row) j)
      go (inl t) = rw (eqb→eq j i t) (subst (P i) (sym row_changed) own)
      go (inr out) =
          let apart : j ≡ i → ⊥ = λ e. out (subst (λ (k : ℕ). T (eqb j k)) e (eqb_refl j)) in
          subst (P j) (sym (row_kept j apart)) (others j apart)

pub changed_sound : (l : Lists) → Sound l → (i : ℕ) → i < length l.tasks → (row : Task) → InRanges row
    → Sound (record { tasks = set l.tasks i row; rules = l.rules })
changed_sound l sound i here row ok =
    let size = length-set l.tasks i row in
    record {
      tasks =
          record {
            few = rw size sound.tasks.few;
            each = rw size
                (each_row l.tasks i here row (λ j t. j < length l.tasks → InRanges t) (λ h. ok) (λ j apart. sound.tasks.each j));
          };
      few_rules = sound.few_rules;
      indices = rw size sound.indices;
      weights = sound.weights;
    }
