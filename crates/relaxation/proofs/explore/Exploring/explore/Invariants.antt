-- After so many looks.
use Rattle.std.proofs.Common.{◌≡◌, length}
use Rattle.taskset.specs.Views.{lists_of}
use Rattle.assignment.specs.Audsley.{problem}
use Rattle.relaxation.specs.Restoring.{restored}
use Rattle.relaxation.specs.Exploring.{looking, started, Bounds}
use Rattle.relaxation.proofs.explore.Exploring.explore.Given as goal

abbrev pub invariant-loop : goal.invariant-loop
invariant-loop l =
    let p = problem (lists_of l.system) in
    record {
      value : l.self ≡ looking p l.budget (started p l.budget (restored p l.budget (length l.system.rules.now))) l.counter;
      bounds : Bounds l.self;
    }
