-- What stands before the first mark.
use Rattle.std.proofs.Common.{◌∙◌}
use Rattle.std.proofs.lemmas.List.{take_rest, drop_min}
use Rattle.lines.specs.PartsLaws.{up_to_first}
use Rattle.lines.proofs.stretch.Goals as goal

pub returns : goal.returns
returns c =
    rw c.unwrap_or-end.ensures (up_to_first c.args.mark _ _ c.memchr.ensures ∙ rw (c.min.ensures, take_rest, drop_min))
