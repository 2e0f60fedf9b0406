-- The next field is read and held.
use Rattle.std.proofs.Common.{sym}
use Rattle.text.specs.Fields.{none_read, field_read}
use Rattle.text.proofs.read_numbers.Goals as goal

pub loop-number-init : goal.loop-number-init
loop-number-init g c = none_read _ _ _ c.requires

pub loop-number-preserved : goal.loop-number-preserved
loop-number-preserved g c = field_read c.loop-number.invariant (sym c.in_ok-field.ensures) c.loop-number-test.true
