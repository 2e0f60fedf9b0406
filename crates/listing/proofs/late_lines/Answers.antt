-- What the closure holds lives long enough; a task left is one of them, and all that are left are blocked alike.
use Rattle.std.proofs.Common.{rules, arith}
use Rattle.listing.proofs.late_lines.Goals as goal

pub marked_lines-requires : goal.marked_lines-requires
marked_lines-requires c κs within =
    (search rules, (search rules, (omega arith, (omega arith, (λ k h t. (h, c.level_blocking-blocking.ensures k h t), λ k r h t e. e)))))
