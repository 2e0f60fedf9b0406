-- Where every level is filled an order was found. Assumes nothing.
use Rattle.std.proofs.Common.{◌≡◌, inl, arith}
use Rattle.taskset.specs.Views.{lists_of}
use Rattle.assignment.proofs.LateLaws.{left-unassignable}
use Rattle.verdict.specs.Solving.{gives_order}
use Rattle.verdict.proofs.verdict_on.Goals as goal

pub returns : goal.returns
returns c =
    let s = c.args.system in
    let full : c.trial-found.result.free ≡ 0 = omega arith in
    record {
      verdict_value = gives_order (lists_of s) s.sound _ _ c.trial-found.ensures.holds_levels c.first-active.ensures full;
      left = left-unassignable (lists_of s) s.sound _ _ c.trial-found.ensures.ended (inl full);
    }
