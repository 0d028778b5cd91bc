use Rattle.std.proofs.Common.{◌≡◌, take, map, length, vec_len, vec_capacity}
use Rattle.tenant_core.specs.Running.{opened_level}
use Rattle.tenant_core.proofs.running.opened_buckets.Given as goal

abbrev pub invariant-loop-peer : goal.invariant-loop-peer
invariant-loop-peer l =
    record {
      done : l.buckets.items ≡ map opened_level (take l.peer-index l.peers);
      count : vec_len l.buckets ≡ l.peer-index;
      room : vec_capacity l.buckets ≡ length l.peers;
    }
