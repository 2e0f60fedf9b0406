-- The accepted lines are exactly the letter and those numbers, written in decimal and parted by single tabs: a line and its
-- fields determine each other, and so do a field that is a number and its value. Assumes nothing.
use Rattle.std.specs.Prelude.{◌≡◌, refl, Some, Bool, true, false, ◌&&◌, ◌↔◌, ◌≢◌, ℕ, zero, suc, ◌+◌, ◌^◌, ◌≤◌, ◌<◌, leb, get_or, drop}
use Rattle.std.proofs.Common.{sym, ◌∙◌, arith, leb→le, drop_of_length-le, drop-cons, ne_eqb, eqb-true}
use Rattle.std.proofs.Math.Path.{ap, ap₂, subst}
use Rattle.std.proofs.lemmas.Bool.{false≢true}
use mathlib.Core.List.{List, [], ◌∷◌, map}
use Rattle.std.proofs.Math.Dec.{T, eqb, eqb→eq}
use Rattle.std.proofs.Math.ListN.{length, length-map}
use Rattle.sets.specs.Choice.{T→true, true→T, and_left, and_right}
use Rattle.lines.specs.Decimal.{tab, max_digits, is_digit, are_digits, value, is_number, decimal}
use Rattle.lines.specs.Parts.{parts, join}
use Rattle.lines.specs.ReadBack.{decimal_digits, read_back, number_exactly}
use Rattle.lines.specs.PartsLaws.{join-parts, Clear, AllClear, parts_join}
use Rattle.taskset.specs.declared.Task.{Task}
use Rattle.taskset.specs.declared.Rule.{Rule}
use Rattle.taskset.specs.declared.Call.TheVariants.{AddTask, AddRule}
use Rattle.taskset.specs.Refusals.{resources}
use Rattle.taskset.specs.Numbers.{task_numbers, rule_numbers, task_of, rule_of, task_size, rule_size}
use Rattle.taskset.proofs.NumbersLaws.{task_back}
use Rattle.text.specs.LineLaws.{asks}
use Rattle.text.specs.Text.{letter_t, letter_r, is_letter, are_numbers, has_form, values_in, asked, line_in, lettered}

-- numbers of at most 7 digits
abbrev pub Short : List ℕ → Type 0
Short [] = Unit {0}
Short (n ∷ ns) = (n < 10 ^ max_digits) × Short ns

-- ---- fields that are numbers

-- they are the ones that are written for their values
numbers_read : (fs : List (List ℕ)) → T (are_numbers fs) → (fs ≡ map decimal (map value fs)) × Short (map value fs)
unfolding are_numbers
numbers_read [] t = (refl, tt)
numbers_read (f ∷ fs) t =
    let first = (number_exactly f (value f)).0 (T→true (is_number f) (and_left (is_number f) (are_numbers fs) t), refl) in
    let rest = numbers_read fs (and_right (is_number f) (are_numbers fs) t) in
    (ap₂ ◌∷◌ first.0 rest.0, (first.1, rest.1))

-- and what is written for short numbers is such fields, with these values
numbers_written : (ns : List ℕ) → Short ns → (are_numbers (map decimal ns) ≡ true) × (map value (map decimal ns) ≡ ns)
unfolding are_numbers
numbers_written [] s = (refl, refl)
numbers_written (n ∷ ns) s =
    let first = read_back n s.0 in
    let rest = numbers_written ns s.1 in
    (rw first.0 rest.0, ap₂ ◌∷◌ first.1 rest.1)

-- no digit is a mark below the byte of 0, as a tab and a line feed are
module _ (m : ℕ) (low : m < 48) where
  digits_clear : (ds : List ℕ) → T (are_digits ds) → Clear m ds
  unfolding are_digits
  digits_clear [] t = tt
  digits_clear (d ∷ ds) t =
      let high = leb→le 48 d (and_left (leb 48 d) (leb d 57) (and_left (is_digit d) (are_digits ds) t)) in
      (ne_eqb d m (omega arith), digits_clear ds (and_right (is_digit d) (are_digits ds) t))

  numbers_clear : (ns : List ℕ) → AllClear m (map decimal ns)
  numbers_clear [] = tt
  numbers_clear (n ∷ ns) = (digits_clear (decimal n) (decimal_digits n), numbers_clear ns)

  pub lettered_clear : (letter : ℕ) → letter ≢ m → (ns : List ℕ) → AllClear m (lettered letter ns)
  lettered_clear letter other ns = ((ne_eqb letter m other, tt), numbers_clear ns)

-- ---- a letter and numbers

letter_alone : (letter : ℕ) (f : List ℕ) → T (is_letter letter f) → f ≡ letter ∷ []
letter_alone letter [] t = absurd t
letter_alone letter (b ∷ []) t = ap (λ (c : ℕ). c ∷ []) (eqb-true b letter (T→true (eqb b letter) t))
letter_alone letter (b ∷ c ∷ bs) t = absurd t

-- the k values from place i on; they are all the rest, where there are no more
abbrev values_from : ℕ → ℕ → List ℕ → List ℕ
values_from i zero vs = []
values_from i (suc k) vs = get_or vs i 0 ∷ values_from (suc i) k vs

values_all : (i k : ℕ) (vs : List ℕ) → length vs ≡ i + k → drop i vs ≡ values_from i k vs
values_all i zero vs e = let none : length vs ≤ i = omega arith in drop_of_length-le vs none
values_all i (suc k) vs e = rw (drop-cons vs i 0 (omega arith), values_all (suc i) k vs (omega arith))

module _ (letter : ℕ) (ns : List ℕ) where
  -- fields of this form, whose values are these
  form_read : (k : ℕ) (fs : List (List ℕ)) → has_form letter k fs ≡ true → values_from 0 k (values_in fs) ≡ ns
      → (fs ≡ lettered letter ns) × Short ns
  unfolding has_form
  form_read k [] e same = absurd (false≢true e)
  form_read k (f ∷ fs) e same =
      let t = true→T (is_letter letter f && eqb (length fs) k && are_numbers fs) e in
      let alone : T (is_letter letter f) = search (and_left, and_right) in
      let many : T (eqb (length fs) k) = search (and_left, and_right) in
      let read = numbers_read fs (and_right (is_letter letter f && eqb (length fs) k) (are_numbers fs) t) in
      let long : length (map value fs) ≡ 0 + k = omega (arith, length-map fs value, eqb→eq (length fs) k many) in
      let is : map value fs ≡ ns = values_all 0 k (map value fs) long ∙ same in (
        ap₂ ◌∷◌ (letter_alone letter f alone) (read.0 ∙ ap (map decimal) is),
        subst Short is read.1,
      )

  -- what holds of the fields holds of the line
  line_of_fields : (bytes : List ℕ) → parts tab bytes ≡ lettered letter ns → bytes ≡ join tab (lettered letter ns)
  line_of_fields bytes e = sym (join-parts tab bytes) ∙ ap (join tab) e

  fields_of_line : letter ≢ tab → (bytes : List ℕ) → bytes ≡ join tab (lettered letter ns) → line_in bytes ≡ asked (lettered letter ns)
  fields_of_line other bytes e =
      rw (e, parts_join tab (lettered letter ns) (omega arith) (lettered_clear tab (omega arith) letter other ns))

-- ---- both kinds of lines

-- a task's line: read, written, and both ways
task_line_read : (t : Task) (fs : List (List ℕ)) → asked fs ≡ Some (AddTask t)
    → (fs ≡ lettered letter_t (task_numbers t)) × Short (task_numbers t) × (length t.sections ≡ resources)
unfolding asked
task_line_read t fs = go (has_form letter_t task_size fs) (has_form letter_r rule_size fs) refl
  where
    go : (a b : Bool) → has_form letter_t task_size fs ≡ a → asks a b (values_in fs) ≡ Some (AddTask t)
        → (fs ≡ lettered letter_t (task_numbers t)) × Short (task_numbers t) × (length t.sections ≡ resources)
    go true b form e =
        let same : task_of (values_in fs) ≡ t = cc in
        let read = form_read letter_t (task_numbers t) task_size fs form (ap task_numbers same) in
        (read.0, read.1, ap (λ (u : Task). length u.sections) (sym same))
    go false true form e = absurd (cc)
    go false false form e = absurd (cc)

task_line_written : (t : Task) → length t.sections ≡ resources → Short (task_numbers t)
    → asked (lettered letter_t (task_numbers t)) ≡ Some (AddTask t)
unfolding asked has_form
task_line_written t whole s =
    let w = numbers_written (task_numbers t) s in
    let long : length (map decimal (task_numbers t)) ≡ task_size = omega (arith, length-map (task_numbers t) decimal) in
    rw (w.0, long) (ap (λ (ms : List ℕ). Some (AddTask (task_of ms))) w.1 ∙ ap (λ (u : Task). Some (AddTask u)) (task_back t whole))

pub task_line_exactly : (bytes : List ℕ) (t : Task) → (line_in bytes ≡ Some (AddTask t))
    ↔ ((bytes ≡ join tab (lettered letter_t (task_numbers t))) × Short (task_numbers t) × (length t.sections ≡ resources))
task_line_exactly bytes t = (
  λ e. let r = task_line_read t (parts tab bytes) e in (line_of_fields letter_t (task_numbers t) bytes r.0, r.1, r.2),
  λ h. fields_of_line letter_t (task_numbers t) (omega arith) bytes h.0 ∙ task_line_written t h.2 h.1,
)

-- and a rule's
rule_line_read : (r : Rule) (fs : List (List ℕ)) → asked fs ≡ Some (AddRule r)
    → (fs ≡ lettered letter_r (rule_numbers r)) × Short (rule_numbers r)
unfolding asked
rule_line_read r fs = go (has_form letter_t task_size fs) (has_form letter_r rule_size fs) refl
  where
    go : (a b : Bool) → has_form letter_r rule_size fs ≡ b → asks a b (values_in fs) ≡ Some (AddRule r)
        → (fs ≡ lettered letter_r (rule_numbers r)) × Short (rule_numbers r)
    go true b form e = absurd (cc)
    go false true form e =
        let same : rule_of (values_in fs) ≡ r = cc in
        form_read letter_r (rule_numbers r) rule_size fs form (ap rule_numbers same)
    go false false form e = absurd (cc)

rule_line_written : (r : Rule) → Short (rule_numbers r) → asked (lettered letter_r (rule_numbers r)) ≡ Some (AddRule r)
unfolding asked has_form
rule_line_written r s = let w = numbers_written (rule_numbers r) s in rw w.0 (ap (λ (ms : List ℕ). Some (AddRule (rule_of ms))) w.1)

pub rule_line_exactly : (bytes : List ℕ) (r : Rule)
    → (line_in bytes ≡ Some (AddRule r)) ↔ ((bytes ≡ join tab (lettered letter_r (rule_numbers r))) × Short (rule_numbers r))
rule_line_exactly bytes r = (
  λ e. let h = rule_line_read r (parts tab bytes) e in (line_of_fields letter_r (rule_numbers r) bytes h.0, h.1),
  λ h. fields_of_line letter_r (rule_numbers r) (omega arith) bytes h.0 ∙ rule_line_written r h.1,
)
