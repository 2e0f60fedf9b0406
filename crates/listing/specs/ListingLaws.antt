-- Laws of listings. Assumes nothing.
use Rattle.std.specs.Prelude.{◌≡◌, List, [], ◌∷◌, ◌++◌, ℕ, ◌+◌, length}
use Rattle.std.proofs.Common.{arith, length-append}
use Rattle.lines.specs.Line.{line, lines_of}
use Rattle.listing.specs.Listing.{late_head, listing_with}

-- the bytes of a listing are those of its three parts
pub listing_size : (head : List ℕ) (lines lates : List (List ℕ)) → length (listing_with head lines lates)
    ≡ length (line head (length lines ∷ [])) + length (lines_of [] lines) + length (lines_of late_head lates)
unfolding listing_with
listing_size head lines lates =
    let top = line head (length lines ∷ []) in
    let rest = lines_of [] lines in
    omega (arith, length-append (top ++ rest) (lines_of late_head lates), length-append top rest)
