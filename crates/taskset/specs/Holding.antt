-- The set that calls make holds the reference model's lists, entry for entry, and the check of 14 passes it.
-- Assumes nothing.
use Rattle.std.specs.Prelude.{◌≡◌, refl, Bool, true, false, List, [], ◌∷◌, ◌++◌, ℕ, ◌<◌, T, ltb, length, get_or, replicate, drop, Result, Ok, Err, is_ok}
use Rattle.std.proofs.Common.{ap, add-one, arith, length-append, le-leb, ltb-true, ltb-false}
use Rattle.std.proofs.Math.ListN.{get_or-append}
use Rattle.std.proofs.Math.Seq.{get_or-append_seam}
use Rattle.std.proofs.lemmas.List.{get_or_default, drop-replicate}
use Rattle.sets.specs.Choice.{pick, T→true}
use Rattle.sets.specs.Bounded.{all, all_of, below_suc}
use Rattle.sets.specs.Pad.{pad, take-pad, pad_used, pad_unused}
use Rattle.taskset.specs.declared.refusals.Refusal.{Refusal}
use Rattle.taskset.specs.declared.Call.{Call}
use Rattle.taskset.specs.declared.Call.TheVariants.{AddTask, AddRule}
use Rattle.taskset.specs.Refusals.{max_tasks, max_rules, InRanges, Between, Weighed, Acceptable, Room}
use Rattle.taskset.specs.Model.{Lists, no_lists, refusal_of, extended, hear, heard, blank_task, blank_rule, no_task, Sound}
use Rattle.taskset.specs.Adding.{holding, lists, task_fits, rule_fits, entry, is_made, answering, add, run}
use Rattle.taskset.specs.RefusalLaws.{taken_exactly, fits_exactly}

pub lists-holding : (l : Lists) → lists (holding l) ≡ l
lists-holding l = rw (take-pad max_tasks blank_task l.tasks, take-pad max_rules blank_rule l.rules)

-- a list copied to the front of an array of blank entries
pub pad_copied : {A : Type 0} (n : ℕ) (d : A) (xs : List A) → xs ++ drop (length xs) (replicate n d) ≡ pad n d xs
pad_copied {A} n d xs = ap (λ (rest : List A). xs ++ rest) (drop-replicate (length xs) n d)

-- ---- lists that adding has taken

pub none_sound : Sound no_lists
none_sound =
    record {
      tasks = record { few = omega arith; each = λ i h. absurd (omega arith) };
      few_rules = omega arith;
      indices = λ i h. absurd (omega arith);
      weights = λ i h. absurd (omega arith);
    }

-- what holds of each entry and of one more holds of each of the longer list
each_more : {A : Type 0} (P : A → Type 0) (d : A) (xs : List A) (x : A) → ((i : ℕ) → i < length xs → P (get_or xs i d)) → P x
    → (i : ℕ) → i < length (xs ++ x ∷ []) → P (get_or (xs ++ x ∷ []) i d)
each_more P d xs x each one i h =
    below_suc (λ (k : ℕ). P (get_or (xs ++ x ∷ []) k d)) (length xs)
    (λ k l. rw (get_or-append xs (x ∷ []) d k l) (each k l))
    (rw (get_or-append_seam xs x [] d) one)
    i (rw (length-append xs (x ∷ []), add-one (length xs)) at h)

extended_sound : (l : Lists) → Sound l → (c : Call) → Acceptable (length l.tasks) c
    → Room (length l.tasks) (length l.rules) c → Sound (extended l c)
extended_sound l s (AddTask t) ok room =
    let longer = length-append l.tasks (t ∷ []) in
    record {
      tasks = record { few = omega arith; each = each_more InRanges no_task l.tasks t s.tasks.each ok };
      few_rules = s.few_rules;
      indices = λ k h. let b = s.indices k h in record { apart = b.apart; higher = omega arith; lower = omega arith };
      weights = s.weights;
    }
extended_sound l s (AddRule r) ok room =
    let longer = length-append l.rules (r ∷ []) in
    record {
      tasks = s.tasks;
      few_rules = omega arith;
      indices = each_more (Between (length l.tasks)) blank_rule l.rules r s.indices ok.0;
      weights = each_more Weighed blank_rule l.rules r s.weights ok.1;
    }

-- a taken call
pub taken_sound : (l : Lists) → Sound l → (c : Call) → refusal_of l c ≡ Ok tt → Sound (extended l c)
taken_sound l s c e = let ok = (taken_exactly (length l.tasks) (length l.rules) c).0 e in extended_sound l s c ok.0 ok.1

-- by whether a call is taken
by_refusal : (P : Bool → Type 0) (r : Result (Unit {0}) Refusal) → (r ≡ Ok tt → P true) → P false → P (is_ok r)
by_refusal P (Ok u) taken refused = taken refl
by_refusal P (Err r) taken refused = refused

hear_sound : (l : Lists) → Sound l → (c : Call) → Sound (hear l c)
unfolding hear
hear_sound l s c = by_refusal (λ b. Sound (pick b (extended l c) l)) (refusal_of l c) (taken_sound l s c) s

pub heard_sound : (l : Lists) → Sound l → (calls : List Call) → Sound (heard l calls)
unfolding heard
heard_sound l s [] = s
heard_sound l s (c ∷ cs) = heard_sound (hear l c) (hear_sound l s c) cs

-- ---- the check passes a set that holds such lists

-- every entry of a padded list fits
entries : {A : Type 0} (fits : Bool → A → Bool) (n : ℕ) (d : A) (xs : List A) → T (fits false d)
    → ((i : ℕ) → i < length xs → T (fits true (get_or xs i d))) → all n (entry fits d (length xs) (pad n d xs)) ≡ true
entries fits n d xs unused used =
    T→true (all n (entry fits d (length xs) (pad n d xs)))
    (all_of n (entry fits d (length xs) (pad n d xs)) (λ k h. go k h (ltb k (length xs)) refl))
  where
    go : (k : ℕ) → k < n → (b : Bool) → ltb k (length xs) ≡ b → T (fits b (get_or (pad n d xs) k d))
    go k h true e = let under = ltb-true k (length xs) e in rw (pad_used n d xs k under) (used k under)
    go k h false e = rw (pad_unused n d xs k (ltb-false k (length xs) e) h) unused

pub sound_made : (l : Lists) → Sound l → is_made (holding l) ≡ true
unfolding is_made task_fits rule_fits
sound_made l s =
    let n = length l.tasks in
    let m = length l.rules in
    rw (
      le-leb n max_tasks s.tasks.few,
      le-leb m max_rules s.few_rules,
      entries (task_fits n m) max_tasks blank_task l.tasks tt
          (λ i h. rw (get_or_default l.tasks i blank_task no_task h) ((fits_exactly n m (AddTask _)).1 (s.tasks.each i h))),
      entries (rule_fits n m) max_rules blank_rule l.rules tt (λ k h. (fits_exactly n m (AddRule _)).1 (s.indices k h, s.weights k h)),
    )

-- ---- a call on a set that holds such lists makes one that holds what the reference model hears

pub add-holding : (l : Lists) → Sound l → (c : Call)
    → add (holding l) c ≡ answering (holding l) (refusal_of l c) (holding (extended l c))
unfolding add
add-holding l s c =
    rw (sound_made l s) (ap (λ (k : Lists). answering (holding l) (refusal_of k c) (holding (extended k c))) (lists-holding l))

hear-holding : (l : Lists) → Sound l → (c : Call) → (add (holding l) c).set ≡ holding (hear l c)
unfolding hear
hear-holding l s c =
    rw (add-holding l s c)
    (by_refusal (λ b. pick b (holding (extended l c)) (holding l) ≡ holding (pick b (extended l c) l)) (refusal_of l c) (λ e. refl) refl)

pub run-holding : (l : Lists) → Sound l → (calls : List Call) → run (holding l) calls ≡ holding (heard l calls)
unfolding run heard
run-holding l s [] = refl
run-holding l s (c ∷ cs) = rw (hear-holding l s c) (run-holding (hear l c) (hear_sound l s c) cs)
