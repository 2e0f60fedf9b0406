-- A set without one of its rules is added where it may cost less than the limit. Assumes nothing.
use Rattle.std.proofs.Common.{arith, ◌∙◌}
use Rattle.relaxation.proofs.FrontierSteps.{child_less, child_more, child_dear}
use Rattle.relaxation.proofs.frontier.Frontier.add_child.Goals as goal

pub returns-then-limit-cost-clause-value : goal.returns-then-limit-cost-clause-value
returns-then-limit-cost-clause-value c = child_dear _ _ _ _ _ c.args.k c.if-limit-cost.true

pub add-requires-clause-cost : goal.add-requires-clause-cost
add-requires-clause-cost c = omega (arith, c.if-limit-cost.false, c.requires.limit)

pub returns-then-least-limit-clause-value : goal.returns-then-least-limit-clause-value
returns-then-least-limit-clause-value c =
    c.add.ensures.value ∙ child_less _ _ _ _ _ c.args.k _ c.listed_in.ensures.value _ c.max-least.ensures c.if-least-limit.true

pub returns-else-least-limit-clause-value : goal.returns-else-least-limit-clause-value
returns-else-least-limit-clause-value c =
    child_more _ _ _ _ _ c.args.k _ c.listed_in.ensures.value _ c.max-least.ensures c.if-least-limit.false
