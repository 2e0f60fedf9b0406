-- The parts of the answer are those of the problem. Assumes nothing.
use Rattle.taskset.specs.Views.{lists_of}
use Rattle.assignment.specs.Audsley.{problem}
use Rattle.subsets.proofs.SubsetsLaws.{in_table}
use Rattle.relaxation.proofs.TableSteps.{tabled_is}
use Rattle.relaxation.proofs.table.tabled_relaxation.Goals as goal

pub marks-kept-requires : goal.marks-kept-requires
marks-kept-requires c = in_table _ c.requires.few c.cheapest.result c.cheapest.ensures.in_bounds

pub returns : goal.returns
returns c =
    tabled_is (problem (lists_of c.args.system)) c.requires.few c.requires.hopeful _ c.cheapest.ensures.value _ c.marks-kept.ensures _ c.cores_listed-ncores.ensures _
    c.cost_of-weight.ensures.value _ c.dropped-dropped.ensures
