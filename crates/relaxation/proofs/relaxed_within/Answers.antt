-- The set of no rules first; a short list whole, where the budget is enough for that. Assumes nothing.
use Rattle.std.proofs.Common.{◌∙◌}
use Rattle.taskset.specs.Views.{lists_of}
use Rattle.assignment.specs.Audsley.{problem}
use Rattle.relaxation.proofs.ExploredSteps.{hopeful_found, within_none, within_short, within_long}
use Rattle.relaxation.proofs.relaxed_within.Goals as goal

pub returns-then-not-is_feasible : goal.returns-then-not-is_feasible
returns-then-not-is_feasible c =
    within_none (problem (lists_of c.args.system)) c.args.budget _ c.is_feasible.ensures c.if-not-is_feasible.true

pub tabled_relaxation-requires-clause-hopeful : goal.tabled_relaxation-requires-clause-hopeful
tabled_relaxation-requires-clause-hopeful c =
    hopeful_found (problem (lists_of c.args.system)) c.args.budget _ c.is_feasible.ensures c.if-not-is_feasible.false

pub returns-then-system-budget : goal.returns-then-system-budget
returns-then-system-budget c =
    c.tabled_relaxation.ensures
    ∙ within_short (problem (lists_of c.args.system)) c.args.budget _ c.is_feasible.ensures c.if-not-is_feasible.false c.if-system-budget.true

pub explored_relaxation-requires-clause-hopeful : goal.explored_relaxation-requires-clause-hopeful
explored_relaxation-requires-clause-hopeful c =
    hopeful_found (problem (lists_of c.args.system)) c.args.budget _ c.is_feasible.ensures c.if-not-is_feasible.false

pub returns : goal.returns
returns c =
    c.explored_relaxation.ensures
    ∙ within_long (problem (lists_of c.args.system)) c.args.budget _ c.is_feasible.ensures c.if-not-is_feasible.false c.if-system-budget.false
