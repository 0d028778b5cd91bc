use Rattle.std.proofs.Common.{◌≡◌, take, length, vec_len, vec_capacity}
use Rattle.tenant_core.proofs.running.copied_purses.Given as goal

abbrev pub invariant-loop-purse : goal.invariant-loop-purse
invariant-loop-purse l =
    record {
      done : l.copy.items ≡ take l.purse-index l.purses;
      count : vec_len l.copy ≡ l.purse-index;
      room : vec_capacity l.copy ≡ length l.purses;
    }
