-- What the execution time in the middle tells. Assumes nothing.
use Rattle.std.proofs.Common.{arith}
use Rattle.taskset.specs.Views.{lists_of}
use Rattle.sensitivity.proofs.HalvingLaws.{tried_sound, tried_searched, tried_full, tried_stuck}
use Rattle.sensitivity.proofs.Halving.try_middle.Goals as goal

pub invariant_of-changed : goal.invariant_of-changed
invariant_of-changed c =
    record { sound = tried_sound (lists_of c.args.system) c.args.system.sound _ c.requires.task_in_bounds c.args.self.now c.requires.halves _ (omega arith) (omega arith) }

pub fill_levels-tried-requires-clause-searched : goal.fill_levels-tried-requires-clause-searched
fill_levels-tried-requires-clause-searched c =
    tried_searched (lists_of c.args.system) c.args.system.sound _ c.requires.task_in_bounds c.args.self.now c.requires.halves _ (omega arith) (omega arith)
    c.requires.every_rule

pub returns-then-tried-eq0-clause-halves : goal.returns-then-tried-eq0-clause-halves
returns-then-tried-eq0-clause-halves c =
    let tried = c.fill_levels-tried in
    tried_full (lists_of c.args.system) c.args.system.sound _ c.requires.task_in_bounds c.args.self.now c.requires.halves _ (omega arith) (omega arith)
    c.requires.every_rule tried.result tried.ensures.decides c.if-tried-eq0.true

pub returns-clause-halves : goal.returns-clause-halves
returns-clause-halves c =
    let tried = c.fill_levels-tried in
    tried_stuck (lists_of c.args.system) c.args.system.sound _ c.requires.task_in_bounds c.args.self.now c.requires.halves _ (omega arith) (omega arith)
    c.requires.every_rule tried.result tried.ensures.decides c.if-tried-eq0.false tried.ensures.ended.searched
