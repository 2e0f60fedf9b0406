-- One more, if there is room. Assumes nothing.
use Rattle.std.proofs.Common.{sym, subst}
use Rattle.relaxation.specs.Frontier.{FewOpen}
use Rattle.relaxation.proofs.FrontierSteps.{added_room, added_full}
use Rattle.relaxation.proofs.FrontierLaws.{few_added}
use Rattle.relaxation.proofs.frontier.Frontier.add.Goals as goal

pub returns-then-self-lt-MAX_OPEN-clause-value : goal.returns-then-self-lt-MAX_OPEN-clause-value
returns-then-self-lt-MAX_OPEN-clause-value c = added_room c.args.self.now c.args.set c.if-self-lt-MAX_OPEN.true

pub returns-else-self-lt-MAX_OPEN-clause-value : goal.returns-else-self-lt-MAX_OPEN-clause-value
returns-else-self-lt-MAX_OPEN-clause-value c = added_full c.args.self.now c.args.set c.if-self-lt-MAX_OPEN.false

pub returns-then-self-lt-MAX_OPEN-clause-few : goal.returns-then-self-lt-MAX_OPEN-clause-few
returns-then-self-lt-MAX_OPEN-clause-few c =
    subst FewOpen (sym (added_room c.args.self.now c.args.set c.if-self-lt-MAX_OPEN.true))
    (few_added c.args.self.now c.args.set c.requires.few c.requires.cost)

pub returns-else-self-lt-MAX_OPEN-clause-few : goal.returns-else-self-lt-MAX_OPEN-clause-few
returns-else-self-lt-MAX_OPEN-clause-few c =
    subst FewOpen (sym (added_full c.args.self.now c.args.set c.if-self-lt-MAX_OPEN.false))
    (few_added c.args.self.now c.args.set c.requires.few c.requires.cost)
