use Rattle.sets.specs.Marks.{marked_filled}
use Rattle.sets.proofs.first.Goals as goal

pub returns : goal.returns
returns g c = rw (c.fill.ensures.after (λ y e. e)) (marked_filled c.args.n _ c.requires)
