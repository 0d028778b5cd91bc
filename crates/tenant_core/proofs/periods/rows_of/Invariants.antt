use Rattle.std.proofs.Common.{◌≡◌, take, map, length, vec_len, vec_capacity}
use Rattle.tenant_core.specs.Purse.{row_of}
use Rattle.tenant_core.specs.Standing.{state_shown}
use Rattle.tenant_core.proofs.periods.rows_of.Given as goal

abbrev pub invariant-loop-place : goal.invariant-loop-place
invariant-loop-place l =
    record {
      done : l.rows.items ≡ map (row_of (state_shown l.standing)) (take l.place l.standing.network.now.peers);
      count : vec_len l.rows ≡ l.place;
      room : vec_capacity l.rows ≡ length l.standing.network.now.peers;
    }
