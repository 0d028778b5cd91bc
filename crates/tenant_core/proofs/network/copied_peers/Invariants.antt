use Rattle.std.proofs.Common.{◌≡◌, take, length, vec_len, vec_capacity}
use Rattle.tenant_core.proofs.network.copied_peers.Given as goal

abbrev pub invariant-loop-peer : goal.invariant-loop-peer
invariant-loop-peer l =
    record {
      done : l.copy.items ≡ take l.peer-index l.peers;
      count : vec_len l.copy ≡ l.peer-index;
      room : vec_capacity l.copy ≡ length l.peers;
    }
