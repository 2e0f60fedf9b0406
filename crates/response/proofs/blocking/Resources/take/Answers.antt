-- `response::blocking::Resources::take` meets its contract: a user is there to be taken away, and past the used entries nothing changes.
use Rattle.std.proofs.Common.{◌≡◌, ◌∙◌, ap, length, arith, le_refl, length-take-le}
use Rattle.sets.specs.Choice.{bool_byte-pick}
use Rattle.response.proofs.ResourcesLaws.{users_enough, tracks_after}
use Rattle.response.proofs.blocking.Resources.take.Goals as goal

pub overflow_sub-kept : goal.overflow_sub-kept
overflow_sub-kept c =
    let k = c.loop-k.k in
    let tracks = c.requires.tracks in
    let inside = length-take-le c.args.self.now.used c.args.self.now.usage (omega (arith, tracks.2.few)) in
    let enough = users_enough tracks.2 c.args.task.0 c.requires.task_in_bounds tracks.1 k (omega (arith, tracks.2.few)) in
    let same = ap (λ u. u.users) (c.loop-k.invariant.rest k (le_refl k) c.loop-k-test.true) in
    rw (c.from.ensures, bool_byte-pick, c.section-section.ensures) (omega (arith, enough, same))

pub returns : goal.returns
returns c left on tracks =
    let cut : length c.loop-k.kept-items ≡ c.args.self.now.used =
    c.loop-k.auto.kept-items ∙ length-take-le c.args.self.now.used c.args.self.now.usage (omega (arith, tracks.few)) in
    tracks_after tracks c.args.task.0 c.requires.task_in_bounds on c.loop-k.kept-items cut (λ k l. c.loop-k.invariant.done k (omega arith))
