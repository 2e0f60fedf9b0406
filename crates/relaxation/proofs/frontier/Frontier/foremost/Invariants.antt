-- The last one of those before i that cost least.
use Rattle.std.proofs.Common.{◌≡◌, ◌<◌}
use Rattle.relaxation.specs.Frontier.{max_open, foremost}
use Rattle.relaxation.proofs.frontier.Frontier.foremost.Given as goal

abbrev pub invariant-loop-i : goal.invariant-loop-i
invariant-loop-i l =
    record {
      found : l.found ≡ foremost l.self l.i;
      in_bounds : l.found < max_open;
    }
