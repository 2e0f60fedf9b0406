-- Halving. Over any test that passes up to some number: what it ends with is the greatest number that passes. And what each execution
-- time tells that is tried. Assumes nothing.
use Rattle.std.specs.Prelude.{Some, None, ◌≡◌, Bool, List, [], ◌++◌, ◌↔◌, ℕ, suc, ◌+◌, ◌-◌, ◌*◌, ◌^◌, ◌≤◌, ◌<◌, T, leb, length, set, take}
use Rattle.std.proofs.Common.{sym, ap, ap₂, subst, ◌∙◌, arith, le→leb, leb→le, get_or-take}
use Rattle.std.proofs.lemmas.List.{set-set, set-get_or, length-set}
use Rattle.std.proofs.Math.Nat.{pow-succ'}
use Rattle.std.proofs.Math.Seq.{take-set-lt, take-append_seam}
use Rattle.sets.specs.Choice.{and_intro, and_left, and_right}
use Rattle.sets.specs.Bounded.{greatest, found, nothing, greatest_only}
use Rattle.sets.specs.Marks.{first}
use Rattle.taskset.specs.declared.Task.{Task}
use Rattle.taskset.specs.Model.{Lists, no_task, task_at, Sound}
use Rattle.assignment.specs.declared.Search.{Search}
use Rattle.assignment.specs.Orders.{SomeOrder}
use Rattle.assignment.specs.Audsley.{problem}
use Rattle.assignment.specs.Search.{Holds, Searched}
use Rattle.assignment.specs.Filling.{searched_eased, searched_none}
use Rattle.assignment.proofs.Preemptive.{feasible-order}
use Rattle.sensitivity.specs.declared.Halving.{Halving}
use Rattle.sensitivity.specs.Longest.{running, with_execution, least_at, period_at, accepts, passing_from, longest}
use Rattle.sensitivity.specs.Halving.{Brackets, Halves}
use Rattle.sensitivity.proofs.ExecutionLaws.{own_row, least-le, execution_sound, execution_eases, accepts_shorter}

module _ (floor top : ℕ) (passes : ℕ → Bool) (range : floor ≤ top)
    (shorter : (c d : ℕ) → floor ≤ c → c ≤ d → d ≤ top → T (passes d) → T (passes c))
    (low : ℕ) (brackets : Brackets floor top passes low (low + 1)) where
  abbrev answers : ℕ → Bool
  answers = passing_from floor passes

  -- nothing beyond passes
  beyond : (c : ℕ) → low < c → c < top + 1 → T (answers c) → ⊥
  beyond c more inside t =
      brackets.high_fails (omega arith)
      (shorter (low + 1) c brackets.from (omega arith) (omega arith) (and_right (leb floor c) (passes c) t))

  pub brackets_some : floor ≤ low → Some low ≡ greatest (top + 1) answers
  brackets_some from =
      greatest_only (top + 1) answers (Some low)
      (found low
      (record {
        below = omega (arith, brackets.to);
        passes = and_intro (leb floor low) (passes low) (le→leb floor low from) (brackets.low_passes from);
        last = λ c inside more. beyond c more inside;
      }))

  pub brackets_none : low < floor → None ≡ greatest (top + 1) answers
  brackets_none under =
      greatest_only (top + 1) answers None
      (nothing (λ c inside t. let from = leb→le floor c (and_left (leb floor c) (passes c) t) in beyond c (omega arith) inside t))

-- ---- nothing is tried yet

pub started : (l : Lists) → Sound l → (i : ℕ) → i < length l.tasks → (front rest : List Task) → front ≡ l.tasks
    → (floor : ℕ) → floor ≡ least_at l i → (s : Search) → Holds (length l.tasks) [] [] s
    → Halves l i (record { tasks = front ++ rest; accepted = floor - 1; refused = period_at l i + 1; stuck = s })
started l sound i here front rest same floor is_floor s holds =
    let range = least-le l i here sound in
    record {
      brackets =
          record {
            from = omega (arith, is_floor);
            apart = omega (arith, is_floor, range);
            to = omega arith;
            low_passes = λ f. absurd (omega (arith, is_floor));
            high_fails = λ f. absurd (omega arith);
          };
      figure = (task_at l.tasks i).execution;
      tasks =
          ap (λ (ts : List Task). take (length l.tasks) (ts ++ rest)) same
          ∙ take-append_seam l.tasks rest
          ∙ sym (set-get_or l.tasks i no_task);
      searched = λ c under.
          searched_none (problem (with_execution l i c)) (first (length l.rules)) s
          (rw (length-set l.tasks i (running (task_at l.tasks i) c)) holds);
    }

-- ---- an execution time tried

module _ (l : Lists) (sound : Sound l) (i : ℕ) (here : i < length l.tasks) (h : Halving) (halves : Halves l i h)
    (c : ℕ) (more : h.accepted < c) (less : c < h.refused) where
  abbrev tasks : List Task
  tasks = set h.tasks i (running (task_at h.tasks i) c)

  -- the lists that are tried
  abbrev lists_tried : Lists
  lists_tried = record { tasks = take (length l.tasks) tasks; rules = l.rules }

  are : lists_tried ≡ with_execution l i c
  are =
      let was = sym (get_or-take (length l.tasks) h.tasks i no_task here) ∙ ap (λ (ts : List Task). task_at ts i) halves.tasks ∙ own_row l i here halves.figure in
      ap (λ (ts : List Task). record { tasks = ts; rules = l.rules })
      (take-set-lt (length l.tasks) h.tasks i (running (task_at h.tasks i) c) here
      ∙ ap (λ (ts : List Task). set ts i (running (task_at h.tasks i) c)) halves.tasks
      ∙ set-set l.tasks i _ _
      ∙ ap (λ (t : Task). set l.tasks i (running t c)) was)

  low : least_at l i ≤ c
  low = omega (arith, halves.brackets.from)

  high : c ≤ period_at l i
  high = omega (arith, halves.brackets.to)

  pub tried_sound : Sound lists_tried
  tried_sound = subst Sound (sym are) (execution_sound l i here sound c low high)

  module _ {active : ℕ → Bool} (all : active ≡ first (length l.rules)) where
    pub tried_searched : Searched (problem lists_tried) active h.stuck
    tried_searched =
        subst (λ (k : Lists). Searched (problem k) active h.stuck) (sym are)
        (subst (λ (a : ℕ → Bool). Searched (problem (with_execution l i c)) a h.stuck) (sym all) (halves.searched c less))

    module _ (r : Search) (decides : (r.free ≡ 0) ↔ SomeOrder lists_tried active) where
      accepted : T (accepts l i c) ↔ (r.free ≡ 0)
      accepted =
          let order = feasible-order (with_execution l i c) (execution_sound l i here sound c low high) (first (length l.rules)) in
          let same = ap₂ SomeOrder are all in
          (λ t. decides.1 (subst (λ (A : Type 0). A) (sym same) (order.0 t)), λ z. order.1 (subst (λ (A : Type 0). A) same (decides.0 z)))

      -- with every level filled it is accepted
      pub tried_full : r.free ≡ 0 → Halves l i (record { tasks = tasks; accepted = c; refused = h.refused; stuck = h.stuck })
      tried_full z =
          let b = halves.brackets in
          record {
            brackets =
                record {
                  from = omega (arith, low);
                  apart = less;
                  to = b.to;
                  low_passes = λ f. accepted.1 z;
                  high_fails = b.high_fails;
                };
            figure = c;
            tasks = ap (λ (k : Lists). k.tasks) are;
            searched = halves.searched;
          }

      -- else it is refused, and for a shorter one the search may go on from there
      pub tried_stuck : (r.free ≡ 0 → ⊥) → Searched (problem lists_tried) active r
          → Halves l i (record { tasks = tasks; accepted = h.accepted; refused = c; stuck = r })
      tried_stuck more_free searched =
          let b = halves.brackets in
          record {
            brackets =
                record {
                  from = b.from;
                  apart = more;
                  to = omega (arith, high);
                  low_passes = b.low_passes;
                  high_fails = λ f t. more_free (accepted.0 t);
                };
            figure = c;
            tasks = ap (λ (k : Lists). k.tasks) are;
            searched = λ d under. searched_eased (execution_eases l i here d c (omega arith)) _ _ (λ k g on. on) r
                (subst (λ (a : ℕ → Bool). Searched (problem (with_execution l i c)) a r) all
                (subst (λ (k : Lists). Searched (problem k) active r) are searched));
          }

-- ---- in so many rounds

-- each leaves at most half of what is open
pub halved : (rounds round now next : ℕ) → round < rounds → now ≤ 2 ^ (rounds - round) → 2 * next ≤ now + 1 → next ≤ 2 ^ (rounds - (round + 1))
halved rounds round now next more wide less =
    let one : rounds - round ≡ suc (rounds - (round + 1)) = omega arith in
    let double = ap (λ (k : ℕ). 2 ^ k) one ∙ pow-succ' 2 (rounds - (round + 1)) in
    omega (arith, wide, less, double)

pub halved_end : (rounds round now : ℕ) → rounds ≤ round → now ≤ 2 ^ (rounds - round) → now ≤ 1
halved_end rounds round now last wide =
    let none : rounds - round ≡ 0 = omega arith in
    let one = ap (λ (k : ℕ). 2 ^ k) none in
    omega (arith, wide, one)

-- and nothing is open after the last
module _ (l : Lists) (sound : Sound l) (i : ℕ) (here : i < length l.tasks) (h : Halving) (halves : Halves l i h)
    (done : h.refused ≤ h.accepted + 1) where
  closed : Brackets (least_at l i) (period_at l i) (accepts l i) h.accepted (h.accepted + 1)
  closed = subst (Brackets (least_at l i) (period_at l i) (accepts l i) h.accepted) (omega (arith, done, halves.brackets.apart)) halves.brackets

  pub halved_some : least_at l i ≤ h.accepted → Some h.accepted ≡ longest l i
  unfolding longest
  halved_some =
      brackets_some (least_at l i) (period_at l i) (accepts l i) (least-le l i here sound) (accepts_shorter l i here sound) h.accepted closed

  pub halved_none : h.accepted < least_at l i → None ≡ longest l i
  unfolding longest
  halved_none =
      brackets_none (least_at l i) (period_at l i) (accepts l i) (least-le l i here sound) (accepts_shorter l i here sound) h.accepted closed
