-- The loop over the rules: those that stay are written, renamed, to the front of an array. Assumes nothing.
use Rattle.std.specs.Prelude.{◌≡◌, refl, true, false, List, [], ◌∷◌, ◌++◌, ℕ, ◌+◌, ◌≤◌, ◌<◌, length, set, replicate}
use Rattle.std.proofs.Common.{ap, arith, length-append}
use Rattle.sets.specs.Pad.{pad, set-pad}
use Rattle.sets.specs.Collected.{collected, collected_few, collected_in, collected_out}
use Rattle.taskset.specs.declared.Rule.{Rule}
use Rattle.taskset.specs.Refusals.{max_rules}
use Rattle.taskset.specs.Model.{rule_at, blank_rule}
use Rattle.taskset.specs.Passing.{zero_rule}
use Rattle.joining.specs.Joining.{is_between, renamed, stays}

module _ (low high : ℕ) (rules : List Rule) where
  -- of the first k rules
  abbrev front : ℕ → List Rule
  front = collected (stays low high rules) (λ j. renamed low high (rule_at rules j))

  pub record RenamedFront (k : ℕ) (array : List Rule) (count : ℕ) : Type 0 where
    pub list : array ≡ pad max_rules blank_rule (front k)
    pub size : count ≡ length (front k)

  -- none yet, one more that stays, and one that doesn't
  pub renamed_none : (r : Rule) → r.higher.0 ≡ 0 → r.lower.0 ≡ 0 → r.weight ≡ 0 → RenamedFront 0 (replicate max_rules r) 0
  unfolding collected
  renamed_none r higher lower weight = record { list = ap (replicate max_rules) (zero_rule r higher lower weight); size = refl }

  module _ (k : ℕ) (array : List Rule) (count : ℕ) (written : RenamedFront k array count) (few : length rules ≤ max_rules) (h : k < length rules) where
    pub renamed_room : count < max_rules
    renamed_room = omega (arith, written.size, collected_few (stays low high rules) (λ j. renamed low high (rule_at rules j)) k)

    pub renamed_in : is_between low high (rule_at rules k) ≡ false
        → RenamedFront (k + 1) (set array count (renamed low high (rule_at rules k))) (count + 1)
    renamed_in e =
        let new = renamed low high (rule_at rules k) in
        let more : front (k + 1) ≡ front k ++ new ∷ [] = collected_in (stays low high rules) _ k (rw e refl) in
        record {
          list =
              rw (written.list, written.size, more)
              (set-pad max_rules blank_rule (front k) new (omega (arith, renamed_room, written.size)));
          size = rw (more, length-append (front k) (new ∷ []), written.size) refl;
        }

    pub renamed_out : is_between low high (rule_at rules k) ≡ true → RenamedFront (k + 1) array count
    renamed_out e =
        let same : front (k + 1) ≡ front k = collected_out (stays low high rules) _ k (rw e refl) in
        record { list = rw same written.list; size = rw same written.size }
