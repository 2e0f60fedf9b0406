-- A listing is never long: an order's at most 9 + 64 × 14 bytes, a core's at most 9 + 128 × 10, and that of an empty core at most
-- 9 + 64 × 16. Assumes nothing.
use Rattle.std.specs.Prelude.{Result, Ok, ◌≡◌, Bool, true, ◌⊎◌, ℕ, ◌+◌, ◌*◌, ◌^◌, ◌≤◌, ◌<◌, length, get_or, take}
use Rattle.std.proofs.Common.{sym, ap, subst, ◌∙◌, inl, inr, ⊎_elim, arith, get_or-take}
use mathlib.Core.List.{List, [], ◌∷◌}
use Rattle.std.proofs.Math.ListN.{get_or-map, get_or-eq_default}
use Rattle.sets.specs.Choice.{lt_or_le}
use Rattle.sets.specs.Bounded.{without}
use Rattle.sets.specs.Collected.{collected, collected_few, collected_at, collected_entry, collected_none}
use Rattle.sets.specs.Marks.{marked}
use Rattle.lines.specs.Line.{line, lines_of}
use Rattle.lines.specs.LineLengths.{line_short, lines_short}
use Rattle.taskset.specs.declared.refusals.Refusal.{Refusal}
use Rattle.taskset.specs.declared.TaskIndex.{TaskIndex}
use Rattle.taskset.specs.declared.TaskSet.{TaskSet}
use Rattle.taskset.specs.Model.{Lists, task_at, Sound}
use Rattle.taskset.specs.Adding.{lists}
use Rattle.taskset.specs.Passing.{Sized}
use Rattle.taskset.specs.Outcome.{Outcome}
use Rattle.response.specs.Equation.{demand}
use Rattle.response.specs.TimingLaws.{reported-le}
use Rattle.assignment.specs.Search.{index}
use Rattle.assignment.specs.LateTasks.{unassignable}
use Rattle.verdict.specs.declared.Finding.{Finding}
use Rattle.verdict.specs.declared.Finding.TheVariants.{Order, Core}
use Rattle.verdict.specs.declared.Verdict.{Verdict}
use Rattle.verdict.specs.Verdict.{deciding, solving}
use Rattle.verdict.specs.Correct.{order_given, Correct}
use Rattle.verdict.specs.Solving.{solving_cases}
use Rattle.verdict.specs.Explained.{deciding_correct}
use Rattle.listing.specs.Listing.{level_line, rule_line, late_line, lines_for, late_for, word, late_head, listing_with, listing}
use Rattle.listing.specs.Listing.{outcome, max_listing}
use Rattle.listing.specs.LateLines.{EmptyCore}
use Rattle.listing.specs.ListingLaws.{listing_size}
use Rattle.listing.proofs.GivesLaws.{late_lines_lem, RefusedOrListed, refusal, verdict, decided_either}

-- ---- lines

-- one for each number that is in, of at most b bytes
collected_short : (b : ℕ) (head : List ℕ) (isIn : ℕ → Bool) (nums : ℕ → List ℕ) (n : ℕ) → ((k : ℕ) → k < n → length (line head (nums k)) ≤ b)
    → let lines = collected isIn nums n in length (lines_of head lines) ≤ b * length lines
collected_short b head isIn nums n each =
    let lines = collected isIn nums n in
    lines_short b head lines (λ i h.
    let (k, below, t, e) = collected_entry isIn nums n i h in
    rw (← e, collected_at isIn nums n k [] below t) (each k below))

-- and the head line, with fewer than 10 ^ d lines
listing_long : (d : ℕ) (head : List ℕ) (lines lates : List (List ℕ)) → 1 ≤ d → length lines < 10 ^ d
    → length (listing_with head lines lates) ≤ length head + d + 1 + length (lines_of [] lines) + length (lines_of late_head lates)
listing_long d head lines lates some few =
    let n = length lines in
    omega (
      arith,
      listing_size head lines lates,
      line_short head (d ∷ []) (n ∷ []) (omega arith) (some, few, tt),
    )

-- ---- of a verdict that is correct

module _ (l : Lists) (sound : Sound l) (v : Verdict) (ok : Correct l v) where
  abbrev n : ℕ
  n = length l.tasks

  abbrev order : List ℕ
  order = order_given l v

  -- level k's task is one of them, and its response is within its deadline
  level_short : v.answer ≡ Ok Order → (k : ℕ) → k < n → length (line [] (level_line v.order v.responses k)) ≤ 14
  level_short e k h =
      let few = sound.tasks.few in
      let i = get_or order k 0 in
      let same : (get_or v.order k (index 0)).0 ≡ i =
      ap (λ (t : TaskIndex). t.0) (sym (get_or-take n v.order k (index 0) h))
      ∙ sym (get_or-map (λ (t : TaskIndex). t.0) (take n v.order) k (index 0)) in
      let task : i < n =
      ⊎_elim (λ u. (ok.valid e).is_order.only k u) (λ o. omega (arith, get_or-eq_default order 0 o)) (lt_or_le k (length order)) in
      let nums = sound.tasks.each i task in
      let within = ok.responses e k h in
      line_short [] (2 ∷ 2 ∷ 7 ∷ []) (level_line v.order v.responses k) (omega arith)
      (omega arith, omega arith, (omega arith, omega arith, (omega arith, omega arith, tt)))

  -- a rule stands between two tasks
  rule_short : (k : ℕ) → k < length l.rules → length (line [] (rule_line l.rules k)) ≤ 10
  rule_short k h =
      let few = sound.tasks.few in
      let few_rules = sound.few_rules in
      let rule = sound.indices k h in
      line_short [] (3 ∷ 2 ∷ 2 ∷ []) (rule_line l.rules k) (omega arith)
      (omega arith, omega arith, (omega arith, omega arith, (omega arith, omega arith, tt)))

  -- a late task is one of them, and its response is within its period
  late_short : (k : ℕ) → k < n → length (line late_head (late_line l.tasks (unassignable l) k)) ≤ 16
  late_short k h =
      let few = sound.tasks.few in
      let own = task_at l.tasks k in
      let d = demand l.tasks k (without (unassignable l) k) in
      let within = reported-le d own.jitter own.deadline own.period in
      let nums = sound.tasks.each k h in
      line_short late_head (2 ∷ 7 ∷ []) (late_line l.tasks (unassignable l) k) (omega arith)
      (omega arith, omega arith, (omega arith, omega arith, tt))

  -- by the answer
  abbrev Short : Result Finding Refusal → Type 0
  Short a = length (listing_with (word a) (lines_for l v a) (late_for l a)) ≤ max_listing

  order_short : v.answer ≡ Ok Order → Short (Ok Order)
  order_short e =
      let few = sound.tasks.few in
      let lines : length (lines_for l v (Ok Order)) ≤ n = collected_few _ _ n in
      omega (
        arith,
        listing_long 2 (word (Ok Order)) (lines_for l v (Ok Order)) [] (omega arith) (omega arith),
        collected_short 14 [] (λ k. true) (level_line v.order v.responses) n (level_short e),
        lines_short 0 late_head [] (λ i h. absurd (omega arith)),
      )

  -- late lines stand under no others
  core_short : v.answer ≡ Ok Core → Short (Ok Core)
  core_short e = go (lt_or_le (length (lines_for l v (Ok Core))) 1)
    where
      rules : length (lines_of [] (lines_for l v (Ok Core))) ≤ 10 * length (lines_for l v (Ok Core))
      rules = collected_short 10 [] (marked v.core) (rule_line l.rules) (length l.rules) rule_short

      go : (length (lines_for l v (Ok Core)) < 1) ⊎ (1 ≤ length (lines_for l v (Ok Core))) → Short (Ok Core)
      go (inl none) =
          let few = sound.tasks.few in
          let lates : length (late_for l (Ok Core)) ≤ n = collected_few _ _ n in
          omega (
            arith,
            rules,
            listing_long 3 (word (Ok Core)) (lines_for l v (Ok Core)) (late_for l (Ok Core)) (omega arith) (omega arith),
            collected_short 16 late_head (unassignable l) (late_line l.tasks (unassignable l)) n late_short,
          )
      go (inr some) =
          let few = sound.few_rules in
          let lines : length (lines_for l v (Ok Core)) ≤ length l.rules = collected_few _ _ (length l.rules) in
          let full : EmptyCore v → ⊥ = λ empty.
          omega (arith, some, ap length (collected_none (marked v.core) (rule_line l.rules) (length l.rules) (λ k h. empty.1 k))) in
          let nobody : late_for l (Ok Core) ≡ [] = ap (late_for l) (sym e) ∙ (late_lines_lem l v sound ok).unchanged full in
          rw nobody (omega (
            arith,
            rules,
            listing_long 3 (word (Ok Core)) (lines_for l v (Ok Core)) [] (omega arith) (omega arith),
            lines_short 0 late_head [] (λ i h. absurd (omega arith)),
          ))

  listing_few : length (listing l v) ≤ max_listing
  listing_few = ⊎_elim (λ e. subst Short (sym e) (order_short e)) (λ e. subst Short (sym e) (core_short e)) ok.one

-- so on lists that adding has taken, and of a set
pub deciding_short : (l : Lists) → Sound l → (bytes : List ℕ) → outcome l (deciding l) ≡ Ok bytes → length bytes ≤ max_listing
deciding_short l sound bytes = go (outcome l (deciding l)) (decided_either l sound)
  where
    go : (o : Outcome) → RefusedOrListed l o → o ≡ Ok bytes → length bytes ≤ max_listing
    go o (refusal k some few) e = cc
    go o (verdict some) e =
        let ok = deciding_correct l sound some in
        let same : bytes ≡ listing l (deciding l) = cc in
        rw same (listing_few l sound (deciding l) ok)

pub listing_short : (s : TaskSet) → Sized s → (bytes : List ℕ) → outcome (lists s) (solving s).verdict ≡ Ok bytes
    → length bytes ≤ max_listing
listing_short s size bytes =
    solving_cases s size (λ v. outcome (lists s) v ≡ Ok bytes → length bytes ≤ max_listing) (λ e. absurd (cc))
    (λ sound. deciding_short (lists s) sound bytes)
