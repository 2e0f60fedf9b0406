-- `response::blocking::usage_on` meets its contract: a turn takes one task more, and at the end it is that of all of them.
use Rattle.std.proofs.Common.{◌≡◌, ◌<◌, ◌∙◌, sym, false, length, arith}
use Rattle.std.proofs.lemmas.List.{length_push}
use Rattle.std.proofs.lemmas.Slice.Zip.{zip_turn, zip_end}
use Rattle.sets.specs.Choice.{bool_byte-pick, bool_byte-le}
use Rattle.sets.specs.Marks.{marked}
use Rattle.taskset.specs.Model.{task_at, no_task}
use Rattle.response.proofs.ResourcesLaws.{usage_none, users_few, usage_more_left, usage_more_levelled, usage_whole}
use Rattle.response.proofs.blocking.usage_on.Goals as goal
use Rattle.response.proofs.blocking.usage_on.Goals.{In-Some}

-- the turn's task and its mark
turn : (c : In-Some) → let n = length c.loop-t.yielded in
    (n < length c.args.tasks.now) × (c.in-Some.t.now ≡ task_at c.args.tasks.now n) × (c.in-Some.is_left.now ≡ marked c.args.left.now n)
turn c =
    let pair = zip_turn c.args.tasks.now c.args.left.now c.loop-t.yielded c.into_iter-t-iterator.result _ c.next.new.self _ (cc) (cc) c.loop-t.yielded_by _
    c.in-Some.is c.next.ensures.steps in
    (pair.0, pair.2 no_task, pair.3 false)

pub loop-t-init : goal.loop-t-init
loop-t-init c = usage_none _ _ _ c.default-usage.ensures

pub overflow_add-usage : goal.overflow_add-usage
overflow_add-usage c =
    let here = turn (goal.at.overflow_add-usage c).In-Some in
    omega (arith, c.requires.few_tasks, users_few c.loop-t.invariant, bool_byte-le)

pub loop-t-preserved-then-is_left : goal.loop-t-preserved-then-is_left
loop-t-preserved-then-is_left c =
    let here = turn (goal.at.loop-t-preserved-then-is_left c).In-Some in
    let more = usage_more_left c.loop-t.invariant here.1 (sym here.2 ∙ c.if-is_left.true) in
    rw (length_push c.loop-t.yielded _)
    (record { users = rw (c.from.ensures, bool_byte-pick, c.section-section.ensures) more.users; held = omega (arith, more.held) })

pub loop-t-preserved : goal.loop-t-preserved
loop-t-preserved c =
    let here = turn (goal.at.loop-t-preserved c).In-Some in
    let more = usage_more_levelled c.loop-t.invariant here.1 (sym here.2 ∙ c.if-is_left.false) in
    rw (length_push c.loop-t.yielded _) (record { users = more.users; held = omega (arith, more.held) })

pub returns : goal.returns
returns c =
    let end = zip_end c.args.tasks.now c.args.left.now c.loop-t.yielded c.into_iter-t-iterator.result _ c.next.new.self _ (cc) (cc) c.loop-t.yielded_by
    c.in-None.is c.next.ensures.steps in
    usage_whole c.loop-t.invariant (omega (arith, c.requires.few_tasks))
