use Rattle.std.proofs.Common.{◌≡◌, length, map, take}
use Rattle.statements.specs.Known.{known}
use Rattle.statements.proofs.known.are_known_as.Given as goal

abbrev pub invariant-loop-place : goal.invariant-loop-place
invariant-loop-place l =
    record {
      long : length l.peers ≡ length l.others;
      same : map known (take l.place l.peers) ≡ map known (take l.place l.others);
    }
