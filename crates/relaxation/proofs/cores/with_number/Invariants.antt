-- The rules before k have their numbers.
use Rattle.relaxation.proofs.DisjointSteps.{NumbersGiven}
use Rattle.relaxation.proofs.cores.with_number.Given as goal

abbrev pub invariant-loop-k : goal.invariant-loop-k
invariant-loop-k l = NumbersGiven l.fn.numbers l.core l.number l.k l.after
