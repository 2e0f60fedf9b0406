-- The search that got stuck is also the other one. Assumes nothing.
use Rattle.std.proofs.Common.{rules}
use Rattle.taskset.specs.Views.{lists_of}
use Rattle.assignment.specs.Audsley.{problem}
use Rattle.assignment.specs.Hints.{searched_bare}
use Rattle.verdict.specs.Cutting.{known_own}
use Rattle.verdict.proofs.Cut.start.Goals as goal

pub returns-clause-cutting : goal.returns-clause-cutting
returns-clause-cutting c =
    record {
      long = search rules;
      stuck = c.requires.ended;
      unfilled = c.requires.le_free;
      known = known_own c.without_rules.ensures _ _ c.passing-known.ensures;
      other = searched_bare (problem (lists_of c.args.system)) _ _ c.requires.ended.searched;
    }
