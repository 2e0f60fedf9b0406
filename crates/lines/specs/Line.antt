-- Lines as they are written: a head, which is a word and its tab or nothing, then numbers in decimal, with a tab between each
-- two and a line feed at the end. Assumes nothing.
use mathlib.Core.List.{List, [], ◌∷◌, ◌++◌, map, flat_map}
use Rattle.std.specs.Prelude.{ℕ, ◌*◌, ◌/◌, length, take, drop}
use Rattle.sets.specs.Marks.{table}
use Rattle.lines.specs.Decimal.{tab, feed, decimal}
use Rattle.lines.specs.Parts.{join}

unfoldable pub line : List ℕ → List ℕ → List ℕ
line head numbers = head ++ join tab (map decimal numbers) ++ feed ∷ []

-- a line for each row of numbers
unfoldable pub lines_of : List ℕ → List (List ℕ) → List ℕ
lines_of head rows = flat_map (line head) rows

-- numbers as rows of so many each; a rest that fills no row is left out
unfoldable pub chunks : ℕ → List ℕ → List (List ℕ)
chunks width numbers = table (length numbers / width) (λ k. take width (drop (width * k) numbers))

-- and the numbers of rows, one after the other
abbrev pub numbers_of : List (List ℕ) → List ℕ
numbers_of = flat_map (λ row. row)

-- the longest head and the most numbers that a size is asked of
abbrev pub max_head : ℕ
max_head = 64

abbrev pub max_entries : ℕ
max_entries = 1_024

-- so many bytes has a line at most: its head, and 20 digits and a byte for each number
abbrev pub max_line : ℕ
max_line = 21_568
