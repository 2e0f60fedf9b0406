-- Laws of how long lines can be, by how many digits their numbers have. Assumes nothing.
use Rattle.std.specs.Prelude.{ℕ, suc, ◌+◌, ◌*◌, ◌^◌, ◌≤◌, ◌<◌, length, get_or}
use Rattle.std.proofs.Common.{arith, suc-le-suc, zero-lt-suc, length-append}
use mathlib.Core.List.{List, [], ◌∷◌, flat_map}
use Rattle.lines.specs.Decimal.{tab}
use Rattle.lines.specs.ReadBack.{decimal-width}
use Rattle.lines.specs.Line.{line, lines_of}
use Rattle.lines.specs.LineWriting.{field_long, tabbed, line_long}

-- numbers of at most so many digits each
abbrev pub Digits : List ℕ → List ℕ → Type 0
Digits [] [] = Unit
Digits [] (n ∷ ns) = ⊥
Digits (k ∷ ks) [] = ⊥
Digits (k ∷ ks) (n ∷ ns) = (1 ≤ k) × (n < 10 ^ k) × Digits ks ns

-- their bytes, with the one after each
abbrev pub most_bytes : List ℕ → ℕ
most_bytes [] = 0
most_bytes (k ∷ ks) = k + 1 + most_bytes ks

numbers_short : (ks ns : List ℕ) → Digits ks ns → length (flat_map tabbed ns) ≤ most_bytes ks
unfolding flat_map
numbers_short [] [] d = omega arith
numbers_short [] (n ∷ ns) d = absurd d
numbers_short (k ∷ ks) [] d = absurd d
numbers_short (k ∷ ks) (n ∷ ns) d =
    omega (
      arith,
      decimal-width k n d.0 d.1,
      field_long n tab,
      length-append (tabbed n) (flat_map tabbed ns),
      numbers_short ks ns d.2,
    )

pub line_short : (head ks ns : List ℕ) → 1 ≤ length ns → Digits ks ns → length (line head ns) ≤ length head + most_bytes ks
line_short head ks ns some d = omega (arith, line_long head ns some, numbers_short ks ns d)

-- lines of at most b bytes
pub lines_short : (b : ℕ) (head : List ℕ) (rows : List (List ℕ)) → ((i : ℕ) → i < length rows → length (line head (get_or rows i [])) ≤ b)
    → length (lines_of head rows) ≤ b * length rows
unfolding lines_of flat_map
lines_short b head [] each = omega arith
lines_short b head (r ∷ rows) each =
    omega (
      arith,
      length-append (line head r) (flat_map (line head) rows),
      each 0 (zero-lt-suc (length rows)),
      lines_short b head rows (λ i h. each (suc i) (suc-le-suc h)),
    )
