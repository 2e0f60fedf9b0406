-- The lines of the levels below k stand in the front.
use Rattle.std.proofs.Common.{◌≡◌, take}
use Rattle.listing.specs.Listing.{level_lines}
use Rattle.listing.proofs.level_lines.Given as goal

abbrev pub invariant-loop-k : goal.invariant-loop-k
invariant-loop-k l = take l.k l.line-items ≡ level_lines l.verdict.order l.verdict.responses l.k
