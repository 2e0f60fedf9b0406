-- What an order keeps that was found is feasible, and so is each set of these rules. Assumes nothing.
use Rattle.std.proofs.Common.{◌∙◌, sym}
use Rattle.sets.specs.Choice.{true→T}
use Rattle.taskset.specs.Views.{lists_of}
use Rattle.subsets.proofs.FoundLaws.{covered_feasible}
use Rattle.subsets.proofs.Found.look_for.Goals as goal

pub returns-then-covers-clause-value : goal.returns-then-covers-clause-value
returns-then-covers-clause-value c =
    sym (covered_feasible (lists_of c.args.system) c.args.system.sound c.args.self.now c.requires.right c.args.set
    (true→T _ (sym c.covers.ensures ∙ c.if-covers.true)))
