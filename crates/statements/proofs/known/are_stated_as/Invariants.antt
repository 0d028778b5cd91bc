use Rattle.std.proofs.Common.{◌≡◌, length, map, take}
use Rattle.statements.specs.Known.{stated}
use Rattle.statements.proofs.known.are_stated_as.Given as goal

abbrev pub invariant-loop-place : goal.invariant-loop-place
invariant-loop-place l =
    record {
      long : length l.peers ≡ length l.others;
      same : map stated (take l.place l.peers) ≡ map stated (take l.place l.others);
    }
