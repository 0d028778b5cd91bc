use Rattle.std.proofs.Common.{◌≡◌, ◌≤◌, take, vec_len, vec_capacity}
use Rattle.tenant_core.proofs.hold.copied_holds.Given as goal

abbrev pub invariant-loop-hold : goal.invariant-loop-hold
invariant-loop-hold l =
    record {
      done : l.copy.items ≡ take l.hold-index l.holds;
      count : vec_len l.copy ≡ l.hold-index;
      room : l.room ≤ vec_capacity l.copy;
    }
