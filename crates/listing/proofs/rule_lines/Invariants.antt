-- The line is the rule's.
use Rattle.listing.specs.Listing.{rule_line}
use Rattle.listing.proofs.rule_lines.Given as goal

abbrev pub ghost-marked_lines : goal.ghost-marked_lines
ghost-marked_lines a = rule_line a.line.0.now
