-- The core that is cut out is remembered, and the set is branched by it. Assumes nothing.
use Rattle.std.proofs.Common.{◌∙◌, sym}
use Rattle.taskset.specs.Views.{lists_of}
use Rattle.assignment.specs.Audsley.{problem}
use Rattle.relaxation.proofs.ExploringLaws.{learning_is}
use Rattle.relaxation.proofs.explore.Exploring.learn.Goals as goal

pub returns-clause-value : goal.returns-clause-value
returns-clause-value c =
    c.branch-self.ensures.value
    ∙ rw (c.add.ensures.value, c.core_in-core.ensures) (sym (learning_is (problem (lists_of c.args.system)) c.args.self.now c.args.set.now))
