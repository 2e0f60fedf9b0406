-- The fields before the position are read.
use Rattle.text.specs.Fields.{FieldsRead}
use Rattle.text.proofs.read_numbers.Given as goal

abbrev pub invariant-loop-number : goal.invariant-loop-number
invariant-loop-number g l = FieldsRead l.line l.from l.at l.number-items l.number-index g.row.N
