-- Whoever takes a level may take it, so the search goes on from there; and where nobody does, it has ended. Assumes nothing.
use Rattle.std.proofs.Common.{◌≡◌, ◌↔◌, Bool, List, ℕ, ◌<◌, length, arith, subst, ◌∙◌, Option}
use Rattle.std.specs.Prelude.{T, None}
use Rattle.sets.specs.Bounded.{without}
use Rattle.sets.specs.Marks.{marked}
use Rattle.taskset.specs.declared.Task.{Task}
use Rattle.taskset.specs.Model.{Lists, Sound}
use Rattle.response.specs.declared.blocking.Resources.{Resources}
use Rattle.response.specs.Resources.{Tracks, blocking_by}
use Rattle.response.proofs.ResourcesLaws.{blocking_level, tracks_unused}
use Rattle.assignment.specs.declared.Hints.{Hints}
use Rattle.assignment.specs.declared.Search.{Search}
use Rattle.assignment.specs.Orders.{SomeOrder}
use Rattle.assignment.specs.Audsley.{without_rules, problem}
use Rattle.assignment.specs.Search.{placed, Ended, Assigns, Helps}
use Rattle.assignment.proofs.Preemptive.{bare_lawful, ended_order}
use Rattle.assignment.specs.Ready.{ready-left}
use Rattle.assignment.specs.Going.{Going, Gone, going_full, going_stuck, going_next, next_left, taker_left}
use Rattle.assignment.proofs.fill_levels.Goals as goal
use Rattle.assignment.proofs.fill_levels.Goals.{In-Some}

-- who was told is one of the tasks left
taker : (c : In-Some) → let t = c.in-Some.choice.task.0 in
    (t < length c.without_rules-tasks.result.list.now) × T (marked c.loop-search.search.left t)
taker c = taker_left c.loop-search.invariant.going (omega arith) _ c.ready-ready.ensures c.taker.ensures c.in-Some.choice c.in-Some.is

-- after its level the search is on its way, and the blocking is that of the tasks left
next : (c : In-Some) {s : Search} → s ≡ placed c.loop-search.search c.in-Some.choice → {r : Resources}
    → Tracks c.without_rules-tasks.result.list.now (without (marked c.loop-search.search.left) c.in-Some.choice.task.0) r → {b : ℕ} → b ≡ blocking_by r
    → record {
      going : Going (problem (record { tasks = c.without_rules-tasks.result.list.now; rules = c.args.system.rules.now })) (marked c.args.active.now) c.args.hints c.args.from s;
      tracks : Tracks c.without_rules-tasks.result.list.now (marked s.left) r;
      charged : b ≡ blocking_by r;
    }
next c placed_is kept same =
    let tasks = c.without_rules-tasks.result.sound in
    let going = c.loop-search.invariant.going in
    rw placed_is
    (record {
      going = going_next going (omega arith) _ c.ready-ready.ensures c.taker.ensures c.in-Some.choice c.in-Some.is tasks.few (bare_lawful tasks);
      tracks = rw (next_left going (omega arith) _ c.ready-ready.ensures c.taker.ensures c.in-Some.choice c.in-Some.is tasks.few) kept;
      charged = same;
    })

-- what the search says where it ends
says : (l : Lists) → Sound l → {tasks : List Task} → tasks ≡ l.tasks → {active : ℕ → Bool} {h : Option Hints} {from r : Search}
    → Gone (problem (record { tasks = tasks; rules = l.rules })) active h from r
    → record {
      ended : Ended (problem l) active r;
      decides : (r.free ≡ 0) ↔ SomeOrder l active;
      helps : Helps (without_rules (problem l)) (marked r.left) h;
      assigns : h ≡ None → Assigns (problem l) active from r;
    }
says l sound e {active} {h} {from} {r} of =
    let gone = subst (λ (ts : List Task). Gone (problem (record { tasks = ts; rules = l.rules })) active h from r) e of in
    record { ended = gone.ended; decides = ended_order l sound _ _ gone.ended; helps = gone.helps; assigns = gone.assigns }

pub invariant_of-level : goal.invariant_of-level
invariant_of-level c =
    let inv = c.loop-search.invariant in
    let are_left = ready-left _ _ _ c.ready-ready.ensures in
    record { are_left = λ i h. are_left i; blocked = λ i h t. inv.charged ∙ blocking_level inv.tracks i h (are_left i t) }

pub returns-in_default : goal.returns-in_default
returns-in_default c =
    says _ c.args.system.sound c.without_rules-tasks.ensures
    (going_stuck c.loop-search.invariant.going (omega arith) _ c.ready-ready.ensures c.taker.ensures c.in_default.is)

pub take-requires-clause-tracks : goal.take-requires-clause-tracks
take-requires-clause-tracks c =
    (marked c.loop-search.search.left, (taker (goal.at.take-requires-clause-tracks c).In-Some).1, c.loop-search.invariant.tracks)

pub blocking-blocking-requires-then-resources-gt0 : goal.blocking-blocking-requires-then-resources-gt0
blocking-blocking-requires-then-resources-gt0 c =
    (c.take.ensures _ (taker (goal.at.blocking-blocking-requires-then-resources-gt0 c).In-Some).1 c.loop-search.invariant.tracks).few

pub loop-search-preserved-then-resources-gt0 : goal.loop-search-preserved-then-resources-gt0
loop-search-preserved-then-resources-gt0 c =
    let some = (goal.at.loop-search-preserved-then-resources-gt0 c).In-Some in
    next some c.place.ensures (c.take.ensures _ (taker some).1 c.loop-search.invariant.tracks) c.blocking-blocking-then-resources-gt0.ensures

pub loop-search-preserved : goal.loop-search-preserved
loop-search-preserved c =
    let some = (goal.at.loop-search-preserved c).In-Some in
    let was = taker some in
    let inv = c.loop-search.invariant in
    next some c.place.ensures (tracks_unused inv.tracks _ was.0 was.1 c.if-resources-gt0.false) inv.charged

pub returns : goal.returns
returns c = says _ c.args.system.sound c.without_rules-tasks.ensures (going_full c.loop-search.invariant.going (omega arith))
