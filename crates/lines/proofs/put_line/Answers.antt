-- The head, and each number into the rest of the buffer.
use Rattle.std.proofs.Common.{◌++◌, List, ℕ, refl, ap, arith, length, drop}
use Rattle.sets.specs.Flat.{no_piece, next_piece}
use Rattle.lines.specs.Decimal.{tab}
use Rattle.lines.specs.LineWriting.{tabbed, field_put, last_put}
use Rattle.lines.proofs.put_line.Goals as goal

pub loop-number-init : goal.loop-number-init
loop-number-init c =
    no_piece tabbed c.args.head.now c.unwrap.result.1.now
    (record { count = refl; list = ap (λ (bs : List ℕ). bs ++ drop (length c.args.head.now) c.args.out.now) c.copy_from_slice.ensures.after })

pub loop-number-preserved : goal.loop-number-preserved
loop-number-preserved c =
    next_piece tabbed _ _ c.loop-number.number-index 0 c.loop-number-test.true
    (field_put c.loop-number.invariant _ tab c.write_number-at.ensures.value c.write_number-at.ensures.written)

pub returns : goal.returns
returns c =
    let all =
    last_put _ _ _ (rw c.unwrap.ensures at c.split_last.ensures.cases).0 _ c.loop-number.invariant (omega arith)
    c.write_number.ensures.value c.write_number.ensures.written in
    record { value = all.count; written = all.list }
