-- What is listed gives what it should.
use Rattle.taskset.proofs.Sizes.{sized}
use Rattle.listing.proofs.Showing.{outcome_made}
use Rattle.listing.proofs.GivesLaws.{list_gives}
use Rattle.listing.proofs.list.Goals as goal

pub returns-clause-gives : goal.returns-clause-gives
returns-clause-gives c =
    let set = c.args.set in
    let same = outcome_made set _ _ c.in-Some.ensures.made c.in-Some.ensures.lists c.decide-decided.ensures.verdict_value in
    list_gives set (sized set c.well_formed.0) c.args.out.now _ _ (rw same c.show-shown.ensures.value)
    (rw same c.show-shown.ensures.bytes)
