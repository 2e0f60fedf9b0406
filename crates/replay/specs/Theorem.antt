-- Demand 3 is met: for every list of adding calls, refused ones included, from a fresh set, the verdict of solving the set it ends
-- with is correct about the reference model's lists; and an order that it gives is the one of document 02, (a). Assumes nothing.
use Rattle.std.specs.Prelude.{◌≡◌, List}
use Rattle.std.proofs.Common.{sym, ap, subst, ◌∙◌}
use Rattle.taskset.specs.declared.Call.{Call}
use Rattle.taskset.specs.Model.{no_lists, heard}
use Rattle.taskset.specs.Adding.{fresh_set, holding, run}
use Rattle.taskset.specs.Holding.{lists-holding, none_sound, sound_made, run-holding, heard_sound}
use Rattle.verdict.specs.declared.Solved.{Solved}
use Rattle.verdict.specs.Verdict.{deciding, solving}
use Rattle.verdict.specs.Correct.{Correct}
use Rattle.verdict.specs.Solving.{solving_made}
use Rattle.verdict.specs.Explained.{deciding_correct}
use Rattle.verdict.specs.OneOrder.{OneOrder}
use Rattle.verdict.specs.OneOrderLaws.{deciding_one}
use Rattle.replay.specs.Demand3.{Demand3}

-- the verdict is that on the lists that the reference model heard
pub replay_decides : (calls : List Call) → (solving (run fresh_set calls)).verdict ≡ deciding (heard no_lists calls)
replay_decides calls =
    let l = heard no_lists calls in
    ap (λ (r : Solved). r.verdict)
    (ap solving (run-holding no_lists none_sound calls) ∙ sym (solving_made (holding l) (sound_made l (heard_sound no_lists none_sound calls))))
    ∙ ap deciding (lists-holding l)

pub demand_3 : (calls : List Call) → Demand3 calls (solving (run fresh_set calls)).verdict
unfolding Demand3
demand_3 calls some =
    let l = heard no_lists calls in
    subst (Correct l) (sym (replay_decides calls)) (deciding_correct l (heard_sound no_lists none_sound calls) some)

pub one_order_lem : (calls : List Call) → OneOrder (heard no_lists calls) (solving (run fresh_set calls)).verdict
one_order_lem calls =
    let l = heard no_lists calls in
    subst (OneOrder l) (sym (replay_decides calls)) (deciding_one l (heard_sound no_lists none_sound calls))
