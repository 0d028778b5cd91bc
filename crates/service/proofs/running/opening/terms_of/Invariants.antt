use Rattle.std.proofs.Common.{◌≡◌, ◌≤◌, length, map, take, vec_len}
use Rattle.std.specs.Prelude.{vec_capacity}
use Rattle.service.proofs.running.opening.terms_of.Given as goal

abbrev pub invariant-loop-tenant : goal.invariant-loop-tenant
invariant-loop-tenant l = record {
  operators : map (λ t. t.admin) l.terms.items ≡ map (λ t. t.admin) (take l.tenant-index l.tenants);
  holds : map (λ t. t.hold) l.terms.items ≡ map (λ t. t.hold) (take l.tenant-index l.tenants);
  count : vec_len l.terms ≡ l.tenant-index;
  room : length l.tenants ≤ vec_capacity l.terms;
}
