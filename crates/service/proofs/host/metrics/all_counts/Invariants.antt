use Rattle.std.proofs.Common.{◌≡◌, ◌≤◌, ℕ, length, vec_len, slice_get}
use Rattle.std.specs.Prelude.{Some, vec_capacity}
use Rattle.service.specs.Metrics.{AreRead}
use Rattle.service.specs.declared.host.metrics.TenantCounts.{TenantCounts}
use Rattle.service.proofs.host.metrics.all_counts.Given as goal

abbrev pub invariant-loop-tenant : goal.invariant-loop-tenant
invariant-loop-tenant g l = record {
  same : l.seat ≡ l.fn.seat;
  count : vec_len l.all ≡ l.tenant;
  room : length l.names ≤ vec_capacity l.all;
  read : (tenant : ℕ) (counts : TenantCounts) → slice_get l.all.items tenant ≡ Some counts
      → (slice_get l.names tenant ≡ Some counts.name.now)
      × AreRead (g.G.Gauges.tells l.gauges tenant) (g.G.Gauges.tells_tokens l.gauges tenant)
      (g.G.Gauges.tells_places l.gauges tenant) (g.G.Gauges.tells_breakers l.gauges tenant) (g.G.Gauges.tells_packets l.gauges tenant) (g.G.Gauges.tells_book l.gauges tenant)
      (g.G.Gauges.tells_statements l.gauges tenant) counts;
}
