-- A known core that is kept whole branches the set; else it is solved. Assumes nothing.
use Rattle.std.proofs.Common.{◌∙◌, arith}
use Rattle.taskset.specs.Views.{lists_of}
use Rattle.assignment.specs.Audsley.{problem}
use Rattle.relaxation.proofs.DisjointSteps.{found_under}
use Rattle.relaxation.proofs.ExploringSteps.{looked_none, looked_solves, looked_branches}
use Rattle.relaxation.proofs.explore.Exploring.look.Goals as goal

pub returns-then-self-eq0-clause-value : goal.returns-then-self-eq0-clause-value
returns-then-self-eq0-clause-value c = looked_none (problem (lists_of c.args.system)) c.args.budget c.args.self.now c.if-self-eq0.true

pub returns-in_default-clause-value : goal.returns-in_default-clause-value
returns-in_default-clause-value c =
    let is = c.take-set.ensures in
    c.solve.ensures.value
    ∙ looked_solves (problem (lists_of c.args.system)) c.args.budget c.args.self.now c.if-self-eq0.false _ is.taken _ is.rest c.in_default.ensures

pub offset_bounds-self-i : goal.offset_bounds-self-i
offset_bounds-self-i c =
    omega (arith, found_under _ c.args.self.now.cores.n c.in-Some.i c.in-Some.ensures, c.requires.bounds.cores)

pub bounds-self-i : goal.bounds-self-i
bounds-self-i c = omega (arith, found_under _ c.args.self.now.cores.n c.in-Some.i c.in-Some.ensures, c.requires.bounds.cores)

pub returns-clause-value : goal.returns-clause-value
returns-clause-value c =
    let is = c.take-set.ensures in
    c.branch-self.ensures.value
    ∙ looked_branches (problem (lists_of c.args.system)) c.args.budget c.args.self.now c.if-self-eq0.false _ is.taken _ is.rest c.in-Some.i c.in-Some.ensures
