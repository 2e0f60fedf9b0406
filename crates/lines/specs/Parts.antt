-- Bytes parted by a byte: lines by line feeds, fields by tabs. Structural on the bytes. Assumes nothing.
use Rattle.std.specs.Prelude.{List, [], ◌∷◌, ◌++◌, ℕ, eqb}
use Rattle.sets.specs.Choice.{pick}

-- one byte more before the first part
abbrev pub cons_first : ℕ → List (List ℕ) → List (List ℕ)
cons_first b [] = (b ∷ []) ∷ []
cons_first b (part ∷ parts) = (b ∷ part) ∷ parts

-- what stands before the first of the parting bytes, between each two, and after the last: one part more than there are of them
unfoldable pub parts : ℕ → List ℕ → List (List ℕ)
parts mark [] = [] ∷ []
parts mark (b ∷ bs) = pick (eqb b mark) ([] ∷ parts mark bs) (cons_first b (parts mark bs))

-- the first of them
unfoldable pub up_to : ℕ → List ℕ → List ℕ
up_to mark [] = []
up_to mark (b ∷ bs) = pick (eqb b mark) [] (b ∷ up_to mark bs)

-- some parts with the mark between each two
abbrev pub join : ℕ → List (List ℕ) → List ℕ
join mark [] = []
join mark (p ∷ []) = p
join mark (p ∷ q ∷ rest) = p ++ mark ∷ join mark (q ∷ rest)
