use Rattle.joining.proofs.RenamingLaws.{RenamedFront}
use Rattle.joining.proofs.joined_rules.Given as goal

-- those of the rules before this one that stay are written
abbrev pub invariant-loop-rule : goal.invariant-loop-rule
invariant-loop-rule l = RenamedFront l.low.0 l.high.0 l.rules l.rule-index l.joined l.count
