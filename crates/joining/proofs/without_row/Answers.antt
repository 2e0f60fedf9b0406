-- The row goes to the end, blanked. Assumes nothing.
use Rattle.std.proofs.Common.{◌∙◌, arith, length-set}
use Rattle.std.proofs.lemmas.Slice.{put_mid-rotated}
use Rattle.taskset.specs.Model.{blank_task}
use Rattle.joining.proofs.MergingLaws.{default_blank, taken_out}
use Rattle.joining.proofs.without_row.Goals as goal

pub returns : goal.returns
returns c =
    let xs = c.args.tasks in
    let i = c.args.place.0 in
    let zero = c.default.ensures in
    let long = length-set xs i c.default.result in
    put_mid-rotated i _ _ _ blank_task (omega (arith, long, c.requires)) (omega (arith, long)) c.rotate_left.ensures.after
    ∙ taken_out xs i (omega arith) c.default.result (default_blank c.default.result zero.0 zero.1.0 zero.1.1.0 zero.1.1.1.0 zero.1.1.1.1)
