-- Each row adds its line.
use Rattle.std.proofs.Common.{ap, ◌∙◌, arith, List, ℕ, length, length-append}
use Rattle.std.specs.Slice.Iter.{chunks_exact_rest}
use Rattle.lines.specs.Line.{line, lines_of, chunks}
use Rattle.lines.specs.LineWriting.{rows_next, rows_short}
use Rattle.lines.proofs.rows_size.Goals as goal

pub loop-row-preserved : goal.loop-row-preserved
loop-row-preserved c =
    let steps = c.in-Some.ensures.steps in
    let row = c.in-Some.row.now in
    let rest = chunks_exact_rest c.next.new.self in
    let long = steps.1.1 ∙ c.loop-row.invariant.size in
    record {
      size = steps.0 ∙ c.loop-row.invariant.size;
      left = λ h e. omega (
        arith,
        c.loop-row.invariant.left h e,
        c.line_size-bytes.ensures.by_index h e,
        ap (λ (ns : List ℕ). length (lines_of h (chunks c.args.width ns))) steps.1.0,
        ap length (rows_next h c.args.width row rest c.requires.le_width.0 long),
        length-append (line h row) (lines_of h (chunks c.args.width rest)),
      );
      few = omega (arith, ap length steps.1.0, length-append row rest, long);
    }

pub returns-clause-by_index : goal.returns-clause-by_index
returns-clause-by_index c h e =
    let none = rows_short h c.args.width _ (rw c.loop-row.invariant.size at c.in-None.ensures.steps.1.0) in
    omega (arith, c.loop-row.invariant.left h e, ap length none)
