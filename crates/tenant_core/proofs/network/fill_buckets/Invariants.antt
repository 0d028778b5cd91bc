use Rattle.std.proofs.Common.{◌≡◌, ◌++◌, take, drop, map, length}
use Rattle.tenant_core.specs.Network.{filled}
use Rattle.tenant_core.proofs.network.fill_buckets.Given as goal

abbrev pub invariant-loop-place : goal.invariant-loop-place
invariant-loop-place l =
    record {
      filled : take l.place l.peers.items ++ map (filled l.clock) (drop l.place l.peers.items) ≡ map (filled l.clock) l.initial.peers.items;
      length : length l.peers.items ≡ length l.initial.peers.items;
    }
