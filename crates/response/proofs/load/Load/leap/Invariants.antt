-- `Load::leap`: after some of the tasks the sums are their parts.
use Rattle.std.proofs.Common.{◌≡◌}
use Rattle.response.proofs.LeapLaws.{fixed_parts, rate_parts}
use Rattle.response.proofs.load.Load.leap.Given as goal

abbrev pub invariant-loop-j : goal.invariant-loop-j
invariant-loop-j l = record {
  fixed_is : l.fixed ≡ fixed_parts l.self.base l.self.tasks.list.now l.self.kept.now l.w l.reach l.j-index;
  rate_is : l.rate ≡ rate_parts l.self.tasks.list.now l.self.kept.now l.w l.reach l.j-index;
}
