-- Level after level, the search is on its way, and the blocking is that of the tasks left.
use Rattle.std.proofs.Common.{◌≡◌}
use Rattle.sets.specs.Marks.{marked}
use Rattle.response.specs.Resources.{Tracks, blocking_by}
use Rattle.assignment.specs.Audsley.{problem}
use Rattle.assignment.specs.Going.{Going}
use Rattle.assignment.proofs.fill_levels.Given as goal

abbrev pub invariant-loop-search : goal.invariant-loop-search
invariant-loop-search l =
    record {
      going : Going (problem (record { tasks = l.tasks.list.now; rules = l.system.rules.now })) (marked l.active) l.hints l.initial.search l.search;
      tracks : Tracks l.tasks.list.now (marked l.search.left) l.resources;
      charged : l.blocking ≡ blocking_by l.resources;
    }

abbrev pub decreases-loop-search : goal.decreases-loop-search
decreases-loop-search l = l.search.free
