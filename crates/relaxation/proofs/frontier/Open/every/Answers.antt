-- The first marks are those of all rules. Assumes nothing.
use Rattle.std.proofs.Common.{List, Bool, ap, length, rules}
use Rattle.relaxation.proofs.TurnLaws.{first_marks}
use Rattle.relaxation.proofs.frontier.Open.every.Goals as goal

pub returns : goal.returns
returns c =
    let s = c.args.system in
    ap (λ (kept : List Bool). record { kept = kept; cost = 0; least = 0 })
    (first_marks (length s.rules.now) c.first.result (search rules) s.sound.few_rules c.first.ensures)
