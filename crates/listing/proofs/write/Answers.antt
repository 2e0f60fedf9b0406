-- The head line, and the others into the rest of the buffer.
use Rattle.std.proofs.Common.{◌≡◌, [], ◌∷◌, ◌+◌, length, refl, arith}
use Rattle.sets.specs.Onto.{Front, tail_back}
use Rattle.lines.specs.Line.{line}
use Rattle.listing.specs.Listing.{late_head, listing_with}
use Rattle.listing.specs.ListingLaws.{listing_size}
use Rattle.listing.proofs.Showing.{shows_whole}
use Rattle.listing.proofs.write.Goals as goal

pub returns : goal.returns
unfolding listing_with
returns c =
    let head = c.args.head.now in
    let bytes = listing_with head c.args.lines.now c.args.late.now in
    let size : c.line_size.result + c.lines_size.result + c.lines_size-2.result ≡ length bytes =
    omega (
      arith,
      listing_size head c.args.lines.now c.args.late.now,
      c.line_size.ensures.by_index head refl,
      c.lines_size.ensures.by_index [] refl,
      c.lines_size-2.ensures.by_index late_head refl,
    ) in
    let first : Front (line head (length c.args.lines.now ∷ [])) c.args.out.now c.put_line-at.result c.put_line-at.new.out =
    record { count = c.put_line-at.ensures.value; list = c.put_line-at.ensures.written } in
    let second = tail_back first (record { count = c.put_lines-at.ensures.value; list = c.put_lines-at.ensures.written }) in
    let third = tail_back second (record { count = c.put_lines.ensures.value; list = c.put_lines.ensures.written }) in
    let shows = shows_whole bytes c.args.out.now _ _ size (omega arith) third.list in
    record { value = shows.0; bytes = shows.1 }
