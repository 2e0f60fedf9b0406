-- What holds while a core is cut down, over any test, and what is left of it, for contracts below solving to cite. Assumes nothing.
use Rattle.std.specs.Prelude.{◌≡◌, Bool, false, List, ◌≤◌, length}
use Rattle.sets.specs.Marks.{marked, table}
use Rattle.sets.specs.Pad.{pad}
use Rattle.taskset.specs.Refusals.{max_rules}
use Rattle.taskset.specs.Model.{Lists}
use Rattle.assignment.specs.Orders.{no_rule}
use Rattle.assignment.specs.Audsley.{Problem, without_rules, feasible, problem}
use Rattle.assignment.specs.Search.{Searched, Ended, Known}
use Rattle.verdict.specs.declared.Cut.{Cut}
use Rattle.verdict.specs.Core.{core_of}

pub record Cutting (p : Problem) (c : Cut) : Type 0 where
  pub long : length c.active ≡ max_rules
  -- the search with the rules still in it has ended, and not every level is filled
  pub stuck : Ended p (marked c.active) c.stuck
  pub unfilled : 1 ≤ c.stuck.free
  pub known : Known (without_rules p) (marked c.stuck.left) (marked c.known)
  pub other : Searched (without_rules p) no_rule c.other

-- ---- when it is done

-- the marks of the core, by rule place
unfoldable pub core_marks : Lists → List Bool
core_marks l = let m = length l.rules in pad max_rules false (table m (core_of (feasible (problem l)) m))
