-- The lines of the marked indices below k stand in the front.
use Rattle.std.proofs.Common.{◌≡◌, length, take}
use Rattle.sets.specs.Collected.{collected}
use Rattle.sets.specs.Marks.{marked}
use Rattle.listing.proofs.marked_lines.Given as goal

abbrev pub invariant-loop-k : goal.invariant-loop-k
invariant-loop-k g l =
    record {
      count : l.count ≡ length (collected (marked l.marks) g.line_of l.k);
      lines : take l.count l.lines ≡ collected (marked l.marks) g.line_of l.k;
    }
