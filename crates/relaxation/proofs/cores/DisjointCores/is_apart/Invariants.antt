-- The rules of the core below k are in none that is listed.
use Rattle.std.proofs.Common.{T}
use Rattle.sets.specs.Bounded.{all}
use Rattle.sets.specs.Marks.{marked}
use Rattle.relaxation.specs.Disjoint.{fresh_at}
use Rattle.relaxation.proofs.cores.DisjointCores.is_apart.Given as goal

abbrev pub invariant-loop-k : goal.invariant-loop-k
invariant-loop-k l = T (all l.k (fresh_at l.self (marked l.core)))
