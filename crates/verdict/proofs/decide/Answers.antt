-- Where there is a task it is the verdict that is correct, and one order. Assumes nothing.
use Rattle.std.proofs.Common.{◌≡◌, sym, subst, arith, ◌∙◌}
use Rattle.std.proofs.lemmas.Bool.Decides.{nat_tests}
use Rattle.taskset.specs.Views.{lists_of}
use Rattle.verdict.specs.Verdict.{deciding}
use Rattle.verdict.specs.Correct.{Correct}
use Rattle.verdict.specs.OneOrder.{OneOrder}
use Rattle.verdict.specs.Solving.{deciding_on}
use Rattle.verdict.specs.Explained.{deciding_correct}
use Rattle.verdict.specs.OneOrderLaws.{deciding_one}
use Rattle.verdict.proofs.decide.Goals as goal

pub returns : goal.returns
returns c =
    let l = lists_of c.args.system in
    let e : c.verdict_on.result.verdict ≡ deciding l = c.verdict_on.ensures.verdict_value ∙ deciding_on l (grind (arith, nat_tests)) in
    record {
      verdict_value = e;
      left = c.verdict_on.ensures.left;
      says = λ some. subst (Correct l) (sym e) (deciding_correct l c.args.system.sound some);
      one_order = subst (OneOrder l) (sym e) (deciding_one l c.args.system.sound);
    }
