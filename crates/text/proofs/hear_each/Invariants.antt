-- What is left of the text, read into the lists that the set holds, gives what the whole text gives.
use Rattle.std.proofs.Common.{length, ◌-◌}
use Rattle.text.specs.Lines.{ReadTo}
use Rattle.text.proofs.hear_each.Given as goal

abbrev pub invariant-loop-reader : goal.invariant-loop-reader
invariant-loop-reader l = ReadTo l.text l.reader l.line l.set

abbrev pub decreases-loop-reader : goal.decreases-loop-reader
decreases-loop-reader l = length l.text - l.reader.at
