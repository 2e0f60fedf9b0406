-- The first set is branched where a rule was not put back, and then the exploration goes on. Assumes nothing.
use Rattle.std.proofs.Common.{true, false, ◌∙◌, ap, length, le_antisymm, eq-zero-or-pos, ⊎_elim}
use Rattle.sets.specs.Choice.{true→T}
use Rattle.taskset.specs.Views.{lists_of}
use Rattle.assignment.specs.Audsley.{problem}
use Rattle.relaxation.specs.Exploring.{learning, started, looking, explored}
use Rattle.relaxation.specs.Restoring.{restored}
use Rattle.relaxation.proofs.ExploringSteps.{hopeless, order_found, started_learns, started_stays, looking_none, looking_next}
use Rattle.relaxation.proofs.explore.Exploring.explore.Goals as goal
use Rattle.relaxation.proofs.explore.Exploring.explore.Goals.{then-self-system, else-self-system, then-self, else-self}

pub learn-requires-clause-le_free : goal.learn-requires-clause-le_free
learn-requires-clause-le_free c =
    let s = c.args.system in
    let is = c.requires.start in
    let found = order_found (lists_of s) s.sound _ _ c.trial-stuck.ensures.ended in
    ⊎_elim
    (λ z.
    absurd
    (hopeless (lists_of s) s.sound c.requires.hopeful c.args.budget c.requires.budget.0 _ is c.if-self-system.true _ c.every-set.ensures
    (true→T _ (found z))))
    (λ h. h) (eq-zero-or-pos c.trial-stuck.result.free)

pub loop-init : goal.loop-init
loop-init c =
    let s = c.args.system in
    let p = problem (lists_of s) in
    let is = c.requires.start in
    elim c.if-self-system.branch [
      | then-self-system w ↦
          rw w.self-is
          (record {
            value = w.learn.ensures.value ∙ ap (learning p c.args.self.now) w.every-set.ensures ∙ started_learns p c.args.budget _ _ is w.if-self-system.true ∙ looking_none p c.args.budget _;
            bounds = w.learn.ensures.bounds;
          })
      | else-self-system w ↦
          rw w.self-is
          (record {
            value = started_stays p c.args.budget _ _ is w.if-self-system.false ∙ looking_none p c.args.budget _;
            bounds = c.requires.bounds;
          })
    ]

pub loop-preserved : goal.loop-preserved
loop-preserved c =
    let at = c.loop in
    let i = at.invariant in
    elim c.if-self.branch [
      | then-self w ↦
          rw w.self-is
          (record {
            value = w.look.ensures.value ∙ looking_next _ _ _ at.counter at.self i.value true w.if-self.true;
            bounds = w.look.ensures.bounds;
          })
      | else-self w ↦
          rw w.self-is (record { value = looking_next _ _ _ at.counter at.self i.value false w.if-self.false; bounds = i.bounds })
    ]

pub returns-clause-value : goal.returns-clause-value
unfolding explored
returns-clause-value c =
    let p = problem (lists_of c.args.system) in
    c.loop.invariant.value
    ∙ ap (looking p c.args.budget (started p c.args.budget (restored p c.args.budget (length c.args.system.rules.now))))
    (le_antisymm c.loop.auto.counter-end c.loop-test.false)
