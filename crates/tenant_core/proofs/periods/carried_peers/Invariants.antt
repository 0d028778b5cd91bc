use Rattle.std.proofs.Common.{◌≡◌, take, map, length, vec_len, vec_capacity}
use Rattle.tenant_core.specs.Periods.{carried}
use Rattle.tenant_core.specs.Standing.{state_shown}
use Rattle.tenant_core.proofs.periods.carried_peers.Given as goal

abbrev pub invariant-loop-place : goal.invariant-loop-place
invariant-loop-place l =
    record {
      done : l.list.items ≡ map (carried (state_shown l.standing) l.clock) (take l.place l.standing.network.now.peers);
      count : vec_len l.list ≡ l.place;
      room : vec_capacity l.list ≡ length l.standing.network.now.peers;
    }
