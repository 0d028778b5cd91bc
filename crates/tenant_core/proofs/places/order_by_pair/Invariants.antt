use Rattle.std.proofs.Common.{◌≡◌, ◌<◌, ℕ, length, get_or}
use Rattle.tenant_core.proofs.places.order_by_pair.Given as goal

abbrev pub invariant-loop-place : goal.invariant-loop-place
invariant-loop-place l =
    record {
      long : length l.order.items ≡ length l.rates;
      done : (k d : ℕ) → k < l.place → get_or l.order.items k d ≡ k;
    }
