-- What the search over the list answers. Assumes nothing.
use Rattle.std.proofs.Common.{rules, tests, nat_eq, take}
use Rattle.std.specs.Int.RustNames.{bit_and}
use Rattle.std.proofs.lemmas.Iterator.{YieldsList-from_slice}
use Rattle.std.proofs.lemmas.Iterator.Search.{any_from_yields_List}
use Rattle.subsets.specs.Found.{covered}
use Rattle.subsets.proofs.Found.covers.Goals as goal

pub returns : goal.returns
unfolding covered
returns c =
    let f = c.args.self.now in
    any_from_yields_List (λ kept. nat_eq (bit_and c.args.set kept) c.args.set) _ _ _ c.any.ensures.ran
    (YieldsList-from_slice (take f.orders f.kept) cc) (λ x b q k. search (rules, tests))
