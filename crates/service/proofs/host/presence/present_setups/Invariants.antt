use Rattle.std.proofs.Common.{◌≡◌, ◌≤◌, ℕ, vec_len, slice_get}
use Rattle.std.specs.Prelude.{Some, vec_capacity}
use Rattle.tenant_core.specs.declared.terms.TenantTerms.{TenantTerms}
use Rattle.service.specs.Presence.{IsPresent}
use Rattle.service.proofs.host.presence.present_setups.Given as goal

abbrev pub invariant-loop-tenant : goal.invariant-loop-tenant
invariant-loop-tenant g l = record {
  count : vec_len l.setups ≡ l.tenant;
  room : l.fn.office.books.tenants ≤ vec_capacity l.setups;
  each : (tenant : ℕ) (setup : TenantTerms) → slice_get l.setups.items tenant ≡ Some setup
      → IsPresent g.J.Run.openings l.fn.office tenant setup;
}
