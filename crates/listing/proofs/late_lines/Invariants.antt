-- The line is the task's.
use Rattle.sets.specs.Marks.{marked}
use Rattle.listing.specs.Listing.{late_line}
use Rattle.listing.proofs.late_lines.Given as goal

abbrev pub ghost-marked_lines : goal.ghost-marked_lines
ghost-marked_lines a = late_line a.line.0.list.now (marked a.line.1.now)
