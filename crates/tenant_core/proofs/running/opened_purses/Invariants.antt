use Rattle.std.proofs.Common.{◌≡◌, take, map, length, vec_len, vec_capacity}
use Rattle.tenant_core.specs.Running.{opened_purse}
use Rattle.tenant_core.proofs.running.opened_purses.Given as goal

abbrev pub invariant-loop-peer : goal.invariant-loop-peer
invariant-loop-peer l =
    record {
      done : l.purses.items ≡ map opened_purse (take l.peer-index l.peers);
      count : vec_len l.purses ≡ l.peer-index;
      room : vec_capacity l.purses ≡ length l.peers;
    }
