-- The digits of what is left, with what is written after them, are the whole.
use Rattle.std.proofs.Common.{refl, sym, ◌∙◌, arith, length-set}
use Rattle.lines.specs.Writing.{onto_store, write_digit, write_last}
use Rattle.lines.proofs.write_number.Goals as goal

pub loop-place-init : goal.loop-place-init
loop-place-init c =
    record {
      left = sym c.width-digits.ensures;
      whole = refl;
      room = omega (arith, length-set c.args.out.now c.width-digits.result c.args.end);
    }

pub loop-place-preserved : goal.loop-place-preserved
loop-place-preserved c = write_digit c.loop-place.invariant c.loop-place-test.true

pub returns-clause-written : goal.returns-clause-written
returns-clause-written c =
    write_last c.loop-place.invariant c.loop-place-test.false
    ∙ onto_store _ c.args.out.now c.width-digits.result c.args.end c.width-digits.ensures (omega arith)
