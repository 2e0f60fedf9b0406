-- The blocking that the response-time equation counts is, in an order, what document 02 says in (c). Assumes nothing.
use Rattle.std.specs.Prelude.{◌≡◌, refl, List, ℕ, ◌<◌, T, length, get_or}
use Rattle.std.proofs.Common.{sym, ap, ◌∙◌, inl, inr, ⊎_elim, eq-or-lt_of_le, arith, ltb→lt, lt→ltb}
use Rattle.sets.specs.Choice.{lt_or_le}
use Rattle.sets.specs.Rank.{rank, get_or-rank}
use Rattle.taskset.specs.declared.Task.{Task}
use Rattle.taskset.specs.Refusals.{section_on}
use Rattle.taskset.specs.Model.{task_at}
use Rattle.response.specs.Blocking.{IsBlocking, blocking_of}
use Rattle.response.proofs.BlockingLaws.{blocking_exactly, blocking_lowest}
use Rattle.assignment.specs.Orders.{IsOrder, hp}
use Rattle.assignment.specs.OrderBlocking.{OrderBlocking}
use Rattle.assignment.specs.Levels.{order-length}

module _ (tasks : List Task) {order : List ℕ} (is : IsOrder (length tasks) order) where
  -- two tasks have two ranks
  apart : (i j : ℕ) → i < length tasks → j < length tasks → rank order i ≡ rank order j → i ≡ j
  apart i j h l e = sym (get_or-rank order i (is.every i h)) ∙ ap (λ (k : ℕ). get_or order k 0) e ∙ get_or-rank order j (is.every j l)

  -- of two tasks the one that does not stand before the other stands after it
  after : (i j : ℕ) → i < length tasks → j < length tasks → (T (hp order i j) → ⊥) → (j ≡ i → ⊥) → rank order i < rank order j
  after i j h l out other =
      ⊎_elim (λ before. before)
      (λ under.
      ⊎_elim (λ e. absurd (other (apart j i l h e))) (λ less. absurd (out (lt→ltb (rank order j) (rank order i) less)))
      (eq-or-lt_of_le under))
      (lt_or_le (rank order i) (rank order j))

  -- what the relation says of the tasks before task i
  says : (i : ℕ) → IsBlocking tasks i (hp order i) (blocking_of tasks i (hp order i))
  says i = (blocking_exactly tasks i (hp order i) (blocking_of tasks i (hp order i))).1 refl

  pub order_blocking : OrderBlocking tasks order (λ i. blocking_of tasks i (hp order i))
  order_blocking =
      record {
        longest = λ i j k h m.
            (says i).longest (section_on (task_at tasks j) k)
            (record {
              holder = j;
              inside = m.inside;
              not_above = λ t. omega (arith, ltb→lt (rank order j) (rank order i) t, m.below);
              not_itself = λ e. omega (arith, ap (rank order) e, m.below);
              resource = k;
              known = m.known;
              held = refl;
              user = m.user;
              near = ⊎_elim (λ e. inl e) (λ a. inr (a.0, lt→ltb (rank order m.user) (rank order i) a.1)) m.near;
              used = m.used;
            });
        found = λ i h.
            ⊎_elim (λ z. inl z)
            (λ m.
            inr (
              m.holder,
              (
                m.resource,
                record {
                  known = m.known;
                  inside = m.inside;
                  below = after i m.holder h m.inside m.not_above m.not_itself;
                  user = m.user;
                  near = ⊎_elim (λ e. inl e) (λ a. inr (a.0, ltb→lt (rank order m.user) (rank order i) a.1)) m.near;
                  used = m.used;
                },
                m.held,
              ),
            ))
            (says i).found;
        lowest = λ i h last.
            blocking_lowest tasks i (hp order i)
            (λ j l other.
            ⊎_elim (λ under. absurd (omega (arith, under, is.every j l, order-length is)))
            (λ over. ⊎_elim (λ e. absurd (other (apart j i l h e))) (λ less. lt→ltb (rank order j) (rank order i) less) (eq-or-lt_of_le over))
            (lt_or_le (rank order i) (rank order j)));
      }
