-- Each row's line into the rest of the buffer.
use Rattle.std.proofs.Common.{◌≡◌, ◌≤◌, ◌++◌, ◌∙◌, List, ℕ, ap, arith, length, length-append, append_assoc, append-nil}
use Rattle.std.specs.Slice.Iter.{chunks_exact_rest}
use Rattle.sets.specs.Onto.{Front, front_as, tail_room, tail_back}
use Rattle.lines.specs.Line.{line, lines_of, chunks}
use Rattle.lines.specs.LineWriting.{rows_next, rows_short}
use Rattle.lines.proofs.put_rows.Goals as goal
use Rattle.lines.proofs.put_rows.Goals.{In-Some, In-None}

-- with the next row's line the lines so far, and those that are left, are all
one_more : (head done all : List ℕ) (w : ℕ) (numbers row rest : List ℕ) → 1 ≤ w → numbers ≡ row ++ rest → length row ≡ w
    → done ++ lines_of head (chunks w numbers) ≡ all → (done ++ line head row) ++ lines_of head (chunks w rest) ≡ all
one_more head done all w numbers row rest some e long so_far =
    append_assoc done (line head row) (lines_of head (chunks w rest)) ∙ rw (e, rows_next head w row rest some long) at so_far

all_with : (c : In-Some) → (c.loop-row.invariant.1 ++ line c.args.head.now c.in-Some.row.now)
    ++ lines_of c.args.head.now (chunks c.args.width (chunks_exact_rest c.next.new.self))
    ≡ lines_of c.args.head.now (chunks c.args.width c.args.numbers.now)
all_with c =
    let steps = c.in-Some.ensures.steps in
    one_more c.args.head.now _ _ c.args.width _ _ _ c.requires.le_width steps.1.0 (steps.1.1 ∙ c.loop-row.invariant.0) c.loop-row.invariant.3

all_in : (c : In-None)
    → Front (lines_of c.args.head.now (chunks c.args.width c.args.numbers.now)) c.args.out.now c.loop-row.at c.loop-row.out
all_in c =
    let none = rows_short c.args.head.now c.args.width _ (rw c.loop-row.invariant.0 at c.in-None.ensures.steps.1.0) in
    front_as (rw (none, append-nil) at c.loop-row.invariant.3) c.loop-row.invariant.2

pub put_line-at-requires-clause-numbers_in_bounds : goal.put_line-at-requires-clause-numbers_in_bounds
put_line-at-requires-clause-numbers_in_bounds c =
    let next = line c.args.head.now c.in-Some.row.now in
    let left = lines_of c.args.head.now (chunks c.args.width (chunks_exact_rest c.next.new.self)) in
    let all = all_with (goal.at.put_line-at-requires-clause-numbers_in_bounds c).In-Some in
    tail_room c.loop-row.invariant.2 next
    (omega (arith, ap length all, length-append (c.loop-row.invariant.1 ++ next) left, c.requires.numbers_in_bounds))

pub loop-row-preserved : goal.loop-row-preserved
loop-row-preserved c =
    let e = c.put_line-at.ensures in (
      c.in-Some.ensures.steps.0 ∙ c.loop-row.invariant.0,
      c.loop-row.invariant.1 ++ line c.args.head.now c.in-Some.row.now,
      tail_back c.loop-row.invariant.2 (record { count = e.value; list = e.written }),
      all_with (goal.at.loop-row-preserved c).In-Some,
    )

pub returns-clause-value : goal.returns-clause-value
returns-clause-value c = (all_in c).count

pub returns-clause-written : goal.returns-clause-written
returns-clause-written c = (all_in c).list
