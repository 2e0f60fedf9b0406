-- A turn is that of a rule. Assumes nothing.
use Rattle.std.proofs.Common.{subst, sym, get_or, length, ◌<◌}
use Rattle.relaxation.specs.declared.turns.Turns.{Turns}
use Rattle.relaxation.proofs.EachTurn.{heavy_below}
use Rattle.relaxation.proofs.restore.restore.Goals as goal

pub put_back-requires-clause-k_in_bounds : goal.put_back-requires-clause-k_in_bounds
put_back-requires-clause-k_in_bounds c =
    let sound = c.args.system.sound in
    subst (λ (t : Turns). get_or t.places c.loop-n.n 0 < length c.args.system.rules.now) (sym c.requires.turns)
    (heavy_below c.args.system.rules.now sound.few_rules (λ k h. (sound.weights k h).least) c.loop-n.n c.loop-n-test.true)
