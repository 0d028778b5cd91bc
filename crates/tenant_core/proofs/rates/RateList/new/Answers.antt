use Rattle.std.proofs.Common.{[], arith}
use Rattle.tenant_core.specs.Places.{pair_at, pair_cmp}
use Rattle.tenant_core.proofs.Indexes.{no_places}
use Rattle.tenant_core.proofs.rates.RateList.new.Goals as goal

pub invariant_of-result : goal.invariant_of-result
invariant_of-result c =
    record {
      pairs = rw (c.new.ensures.items, c.new-2.ensures.items) (no_places pair_cmp (pair_at []));
      apart = rw c.new.ensures.items (λ i j d lt h. absurd (omega arith));
      few = rw c.new.ensures.items (omega arith);
    }
