-- A search that goes on, with hints or without: what holds of it level after level, and what it says when it ends. Over any test.
-- Assumes nothing.
use Rattle.std.specs.Prelude.{Option, Some, None}
use Rattle.std.specs.Prelude.{◌≡◌, Bool, ℕ, ◌≤◌, ◌<◌, T, length}
use Rattle.std.proofs.Common.{sym, subst, ◌∙◌, inl, inr, arith, length-set}
use Rattle.sets.specs.Bounded.{without}
use Rattle.sets.specs.Marks.{marked, marked-without}
use Rattle.taskset.specs.Refusals.{max_tasks}
use Rattle.assignment.specs.declared.Choice.{Choice}
use Rattle.assignment.specs.declared.Search.{Search}
use Rattle.assignment.specs.declared.Hints.{Hints}
use Rattle.assignment.specs.Audsley.{Problem, without_rules, ready}
use Rattle.assignment.specs.Decision.{Lawful}
use Rattle.assignment.specs.Search.{AnyOf, candidates, Chose, placed}
use Rattle.assignment.specs.Search.{Searched, Ended, Assigns, Helps}
use Rattle.assignment.specs.Filling.{Reached, reached_full, reached_stuck, reached_next}
use Rattle.assignment.specs.Filling.{any_stuck, searched_next}
use Rattle.assignment.specs.Ready.{ready-left, candidate_ready}
use Rattle.assignment.specs.Hints.{helps_next}

-- a search on its way from where it started
pub record Going (p : Problem) (active : ℕ → Bool) (h : Option Hints) (from s : Search) : Type 0 where
  pub long : length s.left ≡ max_tasks
  pub searched : Searched p active s
  pub helps : Helps (without_rules p) (marked s.left) h
  pub reached : h ≡ None → Reached p active from s

-- what a search that has ended says
pub record Gone (p : Problem) (active : ℕ → Bool) (h : Option Hints) (from r : Search) : Type 0 where
  pub ended : Ended p active r
  pub helps : Helps (without_rules p) (marked r.left) h
  pub assigns : h ≡ None → Assigns p active from r

module _ {p : Problem} {active : ℕ → Bool} {h : Option Hints} where
  module _ {from s : Search} (going : Going p active h from s) where
    pub going_full : s.free ≡ 0 → Gone p active h from s
    going_full z =
        record {
          ended = record { searched = going.searched; ends = inl z };
          helps = going.helps;
          assigns = λ off. reached_full p active from s z (going.reached off);
        }

    module _ (more : 1 ≤ s.free) (readies : ℕ → Bool) (is-ready : readies ≡ ready p.rules active (marked s.left)) where
      pub going_stuck : {r : Option Choice} → Chose p.tasks (candidates p readies s) h r → r ≡ None → Gone p active h from s
      going_stuck told e =
          record {
            ended =
                record {
                  searched = going.searched;
                  ends = inr (any_stuck p active s readies is-ready (subst (AnyOf p.tasks (candidates p readies s)) e told.any));
                };
            helps = going.helps;
            assigns = λ off. reached_stuck p active s readies is-ready from (going.reached off) more (sym e ∙ told.greatest off);
          }

      module _ {r : Option Choice} (told : Chose p.tasks (candidates p readies s) h r) (c : Choice) (e : r ≡ Some c) where
        taken : AnyOf p.tasks (candidates p readies s) (Some c)
        taken = subst (AnyOf p.tasks (candidates p readies s)) e told.any

        -- who takes it is one of the tasks left
        pub taker_left : (c.task.0 < p.tasks) × T (marked s.left c.task.0)
        taker_left =
            let is = candidate_ready p.test readies (marked s.left) c.task.0 taken.1 in
            (taken.0, ready-left p.rules active (marked s.left) is-ready c.task.0 is)

        module _ (few : p.tasks ≤ max_tasks) where
          here : c.task.0 < length s.left
          here = omega (arith, taken.0, few, going.long)

          pub next_left : marked (placed s c).left ≡ without (marked s.left) c.task.0
          next_left = marked-without s.left c.task.0 here

          pub going_next : Lawful (without_rules p) → Going p active h from (placed s c)
          going_next lawful =
              record {
                long = simp length-set going.long;
                searched = searched_next p active s readies is-ready going.searched more c taken here;
                helps = helps_next (without_rules p) lawful s.left c.task.0 here h going.helps;
                reached = λ off. reached_next p active s readies is-ready from (going.reached off) more c here (sym e ∙ told.greatest off);
              }
