-- Laws of what a line asks: by its first two bytes, and by the numbers after them. Assumes nothing.
use Rattle.std.specs.Prelude.{◌≡◌, Option, Some, None, Bool, ◌&&◌, List, [], ◌∷◌, map, ℕ, ◌<◌, eqb, length, get_or, drop}
use Rattle.std.proofs.Math.Path.{refl}
use Rattle.std.proofs.Common.{true≢false, arith, eq-eqb, ne_eqb, eqb-true}
use Rattle.std.proofs.Math.Bool.{true, false}
use Rattle.std.proofs.lemmas.Bool.{eqb-false}
use Rattle.std.proofs.lemmas.Bool.Decides.{nat_tests}
use Rattle.sets.specs.Choice.{pick, and-false}
use Rattle.lines.specs.Decimal.{tab, value}
use Rattle.lines.specs.Parts.{cons_first, parts}
use Rattle.lines.specs.PartsLaws.{parts-here, parts_on}
use Rattle.taskset.specs.declared.Task.{Task}
use Rattle.taskset.specs.declared.Rule.{Rule}
use Rattle.taskset.specs.declared.Call.{Call}
use Rattle.taskset.specs.declared.Call.TheVariants.{AddTask, AddRule}
use Rattle.taskset.specs.Numbers.{task_of, rule_of, task_size, rule_size}
use Rattle.text.specs.Text.{letter_t, letter_r, is_letter, are_numbers, has_form, asked, line_in, numbers_in}

-- ---- a first field that is no letter

no_letter : (letter : ℕ) (f : List ℕ) → (length f ≡ 1 → ⊥) → is_letter letter f ≡ false
no_letter letter [] h = refl
no_letter letter (b ∷ []) h = absurd (h refl)
no_letter letter (b ∷ c ∷ bs) h = refl

unlettered : (f : List ℕ) (fs : List (List ℕ)) → (length f ≡ 1 → ⊥) → None ≡ asked (f ∷ fs)
unfolding asked has_form
unlettered f fs h = rw (no_letter letter_t f h, no_letter letter_r f h)

-- a line that starts with a tab
starts_with_tab : (a : ℕ) (bs : List ℕ) → eqb a tab ≡ true → None ≡ line_in (a ∷ bs)
starts_with_tab a bs e = rw (parts-here tab a bs e) (unlettered [] (parts tab bs) (omega arith))

-- no second byte, or one that is no tab
pub line_short : (line : List ℕ) → length line < 2 → None ≡ line_in line
unfolding parts asked has_form
line_short [] h = refl
line_short (a ∷ []) h = go (eqb a tab) refl
  where
    go : (b : Bool) → eqb a tab ≡ b → None ≡ line_in (a ∷ [])
    go true e = starts_with_tab a [] e
    go false e = rw (e, and-false (eqb a letter_t), and-false (eqb a letter_r))
line_short (a ∷ b ∷ bs) h = absurd (omega arith)

two_first : (a b : ℕ) (ps : List (List ℕ)) → None ≡ asked (cons_first a (cons_first b ps))
two_first a b [] = unlettered (a ∷ b ∷ []) [] (omega arith)
two_first a b (p ∷ ps) = unlettered (a ∷ b ∷ p) ps (omega arith)

pub line_untabbed : (line : List ℕ) → (get_or line 1 0 ≡ tab → ⊥) → None ≡ line_in line
line_untabbed [] h = line_short [] (omega arith)
line_untabbed (a ∷ []) h = line_short (a ∷ []) (omega arith)
line_untabbed (a ∷ b ∷ bs) h = go (eqb a tab) refl
  where
    go : (c : Bool) → eqb a tab ≡ c → None ≡ line_in (a ∷ b ∷ bs)
    go true e = starts_with_tab a (b ∷ bs) e
    go false e = rw (parts_on tab a (b ∷ bs) e, parts_on tab b bs (ne_eqb b tab h)) (two_first a b (parts tab bs))

-- ---- a first byte and a tab

-- a line of these numbers, or none
abbrev pub line_of : (List ℕ → Option Call) → Option (List ℕ) → Option Call
line_of f None = None
line_of f (Some ns) = f ns

abbrev pub task_asked : List ℕ → Option Call
task_asked ns = Some (AddTask (task_of ns))

abbrev pub rule_asked : List ℕ → Option Call
rule_asked ns = Some (AddRule (rule_of ns))

-- what the two tests and the values ask
abbrev pub asks : Bool → Bool → List ℕ → Option Call
asks t r vs = pick t (task_asked vs) (pick r (rule_asked vs) None)

-- what a letter and the numbers after it ask
abbrev asked_by : ℕ → List (List ℕ) → Option Call
asked_by a fs =
    pick (eqb a letter_t) (line_of task_asked (numbers_in task_size fs))
    (pick (eqb a letter_r) (line_of rule_asked (numbers_in rule_size fs)) None)

asked_by_lem : (a : ℕ) (fs : List (List ℕ)) → asked_by a fs ≡ asked ((a ∷ []) ∷ fs)
unfolding asked has_form
asked_by_lem a fs = go (eqb a letter_t) (eqb a letter_r) (eqb (length fs) task_size) (eqb (length fs) rule_size) apart
  where
    vs : List ℕ
    vs = map value fs

    apart : (eqb a letter_t && eqb a letter_r) ≡ false
    apart = grind (arith, nat_tests)

    chosen : (f : List ℕ → Option Call) (b : Bool) → line_of f (pick b (Some vs) None) ≡ pick b (f vs) None
    chosen f true = refl
    chosen f false = refl

    go : (t r x y : Bool) → (t && r) ≡ false → let z = are_numbers fs in
        pick t (line_of task_asked (pick (x && z) (Some vs) None))
        (pick r (line_of rule_asked (pick (y && z) (Some vs) None)) None)
        ≡ asks (t && x && z) (r && y && z) vs
    go true true x y e = absurd (true≢false e)
    go true false x y e = chosen task_asked (x && are_numbers fs)
    go false true x y e = chosen rule_asked (y && are_numbers fs)
    go false false x y e = refl

-- the line's letter and numbers
line_by : (line : List ℕ) → get_or line 1 0 ≡ tab → asked_by (get_or line 0 0) (parts tab (drop 2 line)) ≡ line_in line
line_by [] h = absurd (omega arith)
line_by (a ∷ []) h = absurd (omega arith)
line_by (a ∷ b ∷ bs) h = go (eqb a tab) refl
  where
    go : (c : Bool) → eqb a tab ≡ c → asked_by a (parts tab bs) ≡ line_in (a ∷ b ∷ bs)
    go true e = rw (eqb-true a tab e) (starts_with_tab tab (b ∷ bs) refl)
    go false e = rw (parts_on tab a (b ∷ bs) e, parts-here tab b bs (eq-eqb b tab h)) (asked_by_lem a (parts tab bs))

-- ---- what it asks by its letter

module _ (line : List ℕ) where
  module _ (tabbed : get_or line 1 0 ≡ tab) where
    module _ (letter : get_or line 0 0 ≡ letter_t) where
      by_task : line_of task_asked (numbers_in task_size (parts tab (drop 2 line))) ≡ line_in line
      by_task = rw letter at (line_by line tabbed)

      pub task_line : {ns : List ℕ} {t : Task} → Some ns ≡ numbers_in task_size (parts tab (drop 2 line)) → t ≡ task_of ns
          → Some (AddTask t) ≡ line_in line
      task_line e f = rw f (rw (← e) at by_task)

      pub no_task_line : None ≡ numbers_in task_size (parts tab (drop 2 line)) → None ≡ line_in line
      no_task_line e = rw (← e) at by_task

    module _ (letter : get_or line 0 0 ≡ letter_r) where
      by_rule : line_of rule_asked (numbers_in rule_size (parts tab (drop 2 line))) ≡ line_in line
      by_rule = rw letter at (line_by line tabbed)

      pub rule_line : {ns : List ℕ} {r : Rule} → Some ns ≡ numbers_in rule_size (parts tab (drop 2 line)) → r ≡ rule_of ns
          → Some (AddRule r) ≡ line_in line
      rule_line e f = rw f (rw (← e) at by_rule)

      pub no_rule_line : None ≡ numbers_in rule_size (parts tab (drop 2 line)) → None ≡ line_in line
      no_rule_line e = rw (← e) at by_rule

  pub other_line : (get_or line 0 0 ≡ letter_t → ⊥) → (get_or line 0 0 ≡ letter_r → ⊥) → None ≡ line_in line
  other_line t r = go (eqb (get_or line 1 0) tab) refl
    where
      go : (b : Bool) → eqb (get_or line 1 0) tab ≡ b → None ≡ line_in line
      go true e = rw (ne_eqb _ letter_t t, ne_eqb _ letter_r r) at (line_by line (eqb-true _ tab e))
      go false e = line_untabbed line (eqb-false _ tab e)

-- what each return gives
pub ruleset line_laws = (line_short, line_untabbed, task_line, no_task_line, rule_line, no_rule_line, other_line)
