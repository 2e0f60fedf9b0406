-- What the exploration gives. Assumes nothing.
use Rattle.std.proofs.Common.{arith, ◌∙◌, ap, ℕ, Bool}
use Rattle.taskset.specs.Views.{lists_of}
use Rattle.assignment.specs.Audsley.{problem}
use Rattle.relaxation.specs.Disjoint.{listed_in}
use Rattle.relaxation.specs.Exploring.{at_start}
use Rattle.relaxation.proofs.ExploringSteps.{restores}
use Rattle.relaxation.proofs.ExploredSteps.{explored_is, explored_cost_is}
use Rattle.relaxation.proofs.explored_relaxation.Goals as goal

pub start-found-requires : goal.start-found-requires
start-found-requires c =
    let s = c.args.system in
    let within = (restores (lists_of s) s.sound c.requires.hopeful c.args.budget).within c.requires.budget.0 in
    rw c.restore.ensures (omega (arith, within, c.requires.budget.1))

pub explore-requires-clause-start : goal.explore-requires-clause-start
explore-requires-clause-start c = c.start-found.ensures.value ∙ ap (at_start (problem (lists_of c.args.system))) c.restore.ensures

pub returns : goal.returns
returns c =
    let s = c.args.system in
    let e = c.explore.new.self in
    let is = c.explore.ensures.value in
    let listed = c.listed_in-ncores.ensures.value in
    explored_is (problem (lists_of s)) c.args.budget e is
    (explored_cost_is (lists_of s) s.sound c.requires.hopeful c.args.budget c.requires.budget.0 e is)
    _ (listed ∙ ap (λ (kept : ℕ → Bool). listed_in s.rules.now e.cores.sets kept e.cores.n) c.first.ensures) _ c.dropped-dropped.ensures _ c.max.ensures
