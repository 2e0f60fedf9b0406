-- A turn makes one call more; then solving, and the theorems of its answer. Assumes nothing.
use Rattle.std.proofs.Common.{sym, ap, subst, arith, ◌∙◌, take_all}
use Rattle.taskset.specs.Model.{no_lists, heard}
use Rattle.taskset.specs.Adding.{fresh_set, run}
use Rattle.verdict.specs.declared.Solved.{Solved}
use Rattle.verdict.specs.Verdict.{solving}
use Rattle.verdict.specs.OneOrder.{OneOrder}
use Rattle.replay.specs.Demand3.{Demand3}
use Rattle.replay.specs.Theorem.{demand_3, one_order_lem}
use Rattle.replay.proofs.replay.Goals as goal

pub loop-call-init : goal.loop-call-init
unfolding run
loop-call-init c = c.fresh-set.ensures

pub returns : goal.returns
returns c =
    let calls = c.args.calls.now in
    let end = c.solve.ensures.value ∙ ap solving (c.loop-call.invariant ∙ ap (run fresh_set) (take_all c.loop-call.call-index calls (omega arith))) in
    record {
      value = end;
      demand3 = subst (λ (r : Solved). Demand3 calls r.verdict) (sym end) (demand_3 calls);
      one_order = subst (λ (r : Solved). OneOrder (heard no_lists calls) r.verdict) (sym end) (one_order_lem calls);
    }
