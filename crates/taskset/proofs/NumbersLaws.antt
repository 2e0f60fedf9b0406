-- Rows and rules as numbers, and back: nothing is lost. Assumes nothing.
use Rattle.std.specs.Prelude.{◌≡◌, refl, List, [], ◌∷◌, ℕ, zero, suc, ◌+◌, ◌<◌, length, get_or, take}
use Rattle.std.proofs.Common.{ap, ap₂, subst, suc-le-suc, zero-lt-suc, arith, get_or-take}
use Rattle.sets.specs.Marks.{table}
use Rattle.taskset.specs.declared.Task.{Task}
use Rattle.taskset.specs.declared.Rule.{Rule}
use Rattle.taskset.specs.Refusals.{resources}
use Rattle.taskset.specs.Numbers.{times, task_size, rule_size, task_of, rule_of, task_numbers, rule_numbers}

table_self : (xs : List ℕ) → table (length xs) (λ k. get_or xs k 0) ≡ xs
table_self [] = refl
table_self (x ∷ xs) = ap (λ (ys : List ℕ). x ∷ ys) (table_self xs)

-- a row with a section for each resource has so many numbers, and is the one of them
module _ (t : Task) (whole : length t.sections ≡ resources) where
  pub task_long : length (task_numbers t) ≡ task_size
  task_long = omega (arith, whole)

  pub task_back : task_of (task_numbers t) ≡ t
  task_back =
      let same : table resources (λ k. get_or t.sections k 0) ≡ t.sections =
      subst (λ (n : ℕ). table n (λ k. get_or t.sections k 0) ≡ t.sections) whole (table_self t.sections) in
      ap (λ (xs : List ℕ). record t { sections = xs }) same

-- so is each rule
pub rule_long : (r : Rule) → length (rule_numbers r) ≡ rule_size
rule_long r = refl

pub rule_back : (r : Rule) → rule_of (rule_numbers r) ≡ r
rule_back r = refl

-- no more numbers are read
table_same : (n : ℕ) (f g : ℕ → ℕ) → ((k : ℕ) → k < n → f k ≡ g k) → table n f ≡ table n g
table_same zero f g same = refl
table_same (suc n) f g same =
    ap₂ (λ (y : ℕ) (ys : List ℕ). y ∷ ys) (same 0 (zero-lt-suc n))
    (table_same n (λ j. f (suc j)) (λ j. g (suc j)) (λ k h. same (suc k) (suc-le-suc h)))

pub task_front : (ns : List ℕ) → task_of (take task_size ns) ≡ task_of ns
task_front ns i =
    let at : (k : ℕ) → k < task_size → get_or (take task_size ns) k 0 ≡ get_or ns k 0 = λ k h. get_or-take task_size ns k 0 h in
    record {
      execution = at 0 (omega arith) i;
      period = at 1 (omega arith) i;
      deadline = at 2 (omega arith) i;
      jitter = at 3 (omega arith) i;
      sections = table_same resources _ _ (λ k h. at (times + k) (omega arith)) i;
    }

pub rule_front : (ns : List ℕ) → rule_of (take rule_size ns) ≡ rule_of ns
rule_front ns i =
    let at : (k : ℕ) → k < rule_size → get_or (take rule_size ns) k 0 ≡ get_or ns k 0 = λ k h. get_or-take rule_size ns k 0 h in
    record {
      higher = record { 0 = at 0 (omega arith) i };
      lower = record { 0 = at 1 (omega arith) i };
      weight = at 2 (omega arith) i;
    }
