use Rattle.std.proofs.Common.{◌≡◌, length, take}
use Rattle.tenant_core.proofs.same.are_same_peers.Given as goal

abbrev pub invariant-loop-place : goal.invariant-loop-place
invariant-loop-place l =
    record {
      long : length l.peers ≡ length l.others;
      same : take l.place l.peers ≡ take l.place l.others;
    }
