-- The last set comes in the place of the one that is taken out. Assumes nothing.
use Rattle.std.proofs.Common.{◌≤◌, ℕ, sym, subst, ap}
use Rattle.relaxation.specs.Weights.{cost_most}
use Rattle.relaxation.specs.Frontier.{open_at, foremost, FewOpen}
use Rattle.relaxation.proofs.FrontierSteps.{taken_is}
use Rattle.relaxation.proofs.FrontierLaws.{foremost_is, few_taken}
use Rattle.relaxation.proofs.frontier.Frontier.take.Goals as goal

pub returns-clause-taken : goal.returns-clause-taken
returns-clause-taken c = ap (open_at c.args.self.now) c.foremost-i.ensures.value

pub returns-clause-cost : goal.returns-clause-cost
returns-clause-cost c =
    let f = c.args.self.now in
    subst (λ (i : ℕ). (open_at f i).cost ≤ cost_most) (sym c.foremost-i.ensures.value)
    (c.requires.few.costs (foremost f f.n) (foremost_is f f.n c.requires.some).0)

pub returns-clause-rest : goal.returns-clause-rest
returns-clause-rest c = taken_is c.args.self.now c.foremost-i.result c.foremost-i.ensures.value

pub returns-clause-few : goal.returns-clause-few
returns-clause-few c =
    subst FewOpen (sym (taken_is c.args.self.now c.foremost-i.result c.foremost-i.ensures.value)) (few_taken c.args.self.now c.requires.few c.requires.some)
