-- Document 02, (g): the two tasks side by side again, in an order of the joined ones. Assumes nothing.
use Rattle.std.specs.Prelude.{List, [], ◌∷◌, ℕ, suc, max, min, ltb, eqb}
use Rattle.sets.specs.Choice.{pick}

-- where a task other than the join stood before
unfoldable pub old_place : ℕ → ℕ → ℕ
old_place high j = pick (ltb j high) j (suc j)

-- an order of the joined tasks, with the two, one right above the other, in place of the join
unfoldable pub side_by_side : ℕ → ℕ → List ℕ → List ℕ
side_by_side upper lower [] = []
side_by_side upper lower (x ∷ xs) =
    let rest = side_by_side upper lower xs in
    pick (eqb x (min upper lower)) (upper ∷ lower ∷ rest) (old_place (max upper lower) x ∷ rest)
