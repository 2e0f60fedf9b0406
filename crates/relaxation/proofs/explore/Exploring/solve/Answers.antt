-- Whether the search fills every level tells whether the set has an order. Assumes nothing.
use Rattle.std.proofs.Common.{◌∙◌}
use Rattle.taskset.specs.Views.{lists_of}
use Rattle.relaxation.proofs.ExploringSteps.{solved_spent, solved_order, solved_short, solved_learns, order_found, order_none}
use Rattle.relaxation.proofs.explore.Exploring.solve.Goals as goal

pub returns-then-budget-self-clause-value : goal.returns-then-budget-self-clause-value
returns-then-budget-self-clause-value c = solved_spent _ c.args.budget c.args.self.now c.args.set.now c.if-budget-self.true

pub returns-then-tried-eq0-clause-value : goal.returns-then-tried-eq0-clause-value
returns-then-tried-eq0-clause-value c =
    let found = order_found (lists_of c.args.system) c.args.system.sound _ _ c.trial-tried.ensures.ended c.if-tried-eq0.true in
    solved_order _ c.args.budget c.args.self.now c.args.set.now c.if-budget-self.false found

pub returns-then-budget-self-2-clause-value : goal.returns-then-budget-self-2-clause-value
returns-then-budget-self-2-clause-value c =
    let none = order_none (lists_of c.args.system) c.args.system.sound _ _ c.trial-tried.ensures.ended c.if-tried-eq0.false in
    solved_short _ c.args.budget c.args.self.now c.args.set.now c.if-budget-self.false none c.if-budget-self-2.true

pub returns-clause-value : goal.returns-clause-value
returns-clause-value c =
    let none = order_none (lists_of c.args.system) c.args.system.sound _ _ c.trial-tried.ensures.ended c.if-tried-eq0.false in
    c.learn.ensures.value ∙ solved_learns _ c.args.budget c.args.self.now c.args.set.now c.if-budget-self.false none c.if-budget-self-2.false
