use Rattle.std.proofs.Common.{◌≡◌, ◌≤◌, take, vec_len, vec_capacity}
use Rattle.tenant_core.proofs.arena.copied_records.Given as goal

abbrev pub invariant-loop-record : goal.invariant-loop-record
invariant-loop-record l =
    record {
      done : l.copy.items ≡ take l.record-index l.records;
      count : vec_len l.copy ≡ l.record-index;
      room : l.room ≤ vec_capacity l.copy;
    }
