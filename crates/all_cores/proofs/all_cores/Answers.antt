-- 14, 13, 24, 9, or the cores. Assumes nothing.
use Rattle.std.specs.Prelude.{Ok, Err, ℕ, length}
use Rattle.std.proofs.Common.{◌∙◌, sym, ap}
use Rattle.taskset.specs.declared.refusals.Refusal.TheVariants.{ShortBuffer, NoTasks, NotMade, ManyRules}
use Rattle.taskset.specs.Views.{lists_of}
use Rattle.assignment.specs.Audsley.{problem}
use Rattle.all_cores.specs.Enumerating.{cores_of}
use Rattle.all_cores.proofs.EnumeratingLaws.{outcome_is, all_says, is_14, is_13, is_24, is_9, is_listed}
use Rattle.all_cores.proofs.all_cores.Goals as goal

pub returns-in_default-clause-value : goal.returns-in_default-clause-value
returns-in_default-clause-value c = (outcome_is c.args.set.now c.args.out.now (Err NotMade) (is_14 c.args.set.now (length c.args.out.now) (sym c.in_default.ensures.made))).0

pub returns-in_default-clause-buffer : goal.returns-in_default-clause-buffer
returns-in_default-clause-buffer c = (outcome_is c.args.set.now c.args.out.now (Err NotMade) (is_14 c.args.set.now (length c.args.out.now) (sym c.in_default.ensures.made))).1

pub returns-in_default-clause-says : goal.returns-in_default-clause-says
returns-in_default-clause-says c = all_says _ _ _ _ (returns-in_default-clause-value c) (returns-in_default-clause-buffer c)

pub returns-then-is_empty-clause-value : goal.returns-then-is_empty-clause-value
returns-then-is_empty-clause-value c =
    let e = c.in-Some.ensures in
    (outcome_is c.args.set.now c.args.out.now (Err NoTasks)
    (is_13 c.args.set.now (length c.args.out.now) (sym e.made) _ e.lists (sym c.if-is_empty.ensures))).0

pub returns-then-is_empty-clause-buffer : goal.returns-then-is_empty-clause-buffer
returns-then-is_empty-clause-buffer c =
    let e = c.in-Some.ensures in
    (outcome_is c.args.set.now c.args.out.now (Err NoTasks)
    (is_13 c.args.set.now (length c.args.out.now) (sym e.made) _ e.lists (sym c.if-is_empty.ensures))).1

pub returns-then-is_empty-clause-says : goal.returns-then-is_empty-clause-says
returns-then-is_empty-clause-says c = all_says _ _ _ _ (returns-then-is_empty-clause-value c) (returns-then-is_empty-clause-buffer c)

pub returns-then-system-gt-SHORT-clause-value : goal.returns-then-system-gt-SHORT-clause-value
returns-then-system-gt-SHORT-clause-value c =
    let e = c.in-Some.ensures in
    (outcome_is c.args.set.now c.args.out.now (Err ManyRules)
    (is_24 c.args.set.now (length c.args.out.now) (sym e.made) _ e.lists (sym c.if-is_empty.ensures) c.if-system-gt-SHORT.true)).0

pub returns-then-system-gt-SHORT-clause-buffer : goal.returns-then-system-gt-SHORT-clause-buffer
returns-then-system-gt-SHORT-clause-buffer c =
    let e = c.in-Some.ensures in
    (outcome_is c.args.set.now c.args.out.now (Err ManyRules)
    (is_24 c.args.set.now (length c.args.out.now) (sym e.made) _ e.lists (sym c.if-is_empty.ensures) c.if-system-gt-SHORT.true)).1

pub returns-then-system-gt-SHORT-clause-says : goal.returns-then-system-gt-SHORT-clause-says
returns-then-system-gt-SHORT-clause-says c = all_says _ _ _ _ (returns-then-system-gt-SHORT-clause-value c) (returns-then-system-gt-SHORT-clause-buffer c)

pub returns-then-out-lt-MAX_CORES-clause-value : goal.returns-then-out-lt-MAX_CORES-clause-value
returns-then-out-lt-MAX_CORES-clause-value c =
    let e = c.in-Some.ensures in
    (outcome_is c.args.set.now c.args.out.now (Err ShortBuffer)
    (is_9 c.args.set.now (length c.args.out.now) (sym e.made) _ e.lists (sym c.if-is_empty.ensures) c.if-system-gt-SHORT.false c.if-out-lt-MAX_CORES.true)).0

pub returns-then-out-lt-MAX_CORES-clause-buffer : goal.returns-then-out-lt-MAX_CORES-clause-buffer
returns-then-out-lt-MAX_CORES-clause-buffer c =
    let e = c.in-Some.ensures in
    (outcome_is c.args.set.now c.args.out.now (Err ShortBuffer)
    (is_9 c.args.set.now (length c.args.out.now) (sym e.made) _ e.lists (sym c.if-is_empty.ensures) c.if-system-gt-SHORT.false c.if-out-lt-MAX_CORES.true)).1

pub returns-then-out-lt-MAX_CORES-clause-says : goal.returns-then-out-lt-MAX_CORES-clause-says
returns-then-out-lt-MAX_CORES-clause-says c = all_says _ _ _ _ (returns-then-out-lt-MAX_CORES-clause-value c) (returns-then-out-lt-MAX_CORES-clause-buffer c)

pub returns-clause-value : goal.returns-clause-value
returns-clause-value c =
    let e = c.in-Some.ensures in
    ap (λ (n : ℕ). Ok n) c.write_cores.ensures.value
    ∙ (outcome_is c.args.set.now c.args.out.now (Ok (cores_of (problem (lists_of c.in-Some.system))))
    (is_listed c.args.set.now (length c.args.out.now) (sym e.made) _ e.lists (sym c.if-is_empty.ensures) c.if-system-gt-SHORT.false c.if-out-lt-MAX_CORES.false)).0

pub returns-clause-buffer : goal.returns-clause-buffer
returns-clause-buffer c =
    let e = c.in-Some.ensures in
    c.write_cores.ensures.buffer
    ∙ (outcome_is c.args.set.now c.args.out.now (Ok (cores_of (problem (lists_of c.in-Some.system))))
    (is_listed c.args.set.now (length c.args.out.now) (sym e.made) _ e.lists (sym c.if-is_empty.ensures) c.if-system-gt-SHORT.false c.if-out-lt-MAX_CORES.false)).1

pub returns-clause-says : goal.returns-clause-says
returns-clause-says c = all_says _ _ _ _ (returns-clause-value c) (returns-clause-buffer c)
