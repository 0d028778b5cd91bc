use Rattle.std.proofs.Common.{◌≡◌, ◌≤◌, length, map, take}
use Rattle.std.specs.Prelude.{vec_capacity}
use Rattle.admin_text.proofs.setup.Setup.names.Given as goal

abbrev pub invariant-loop-tenant : goal.invariant-loop-tenant
invariant-loop-tenant l = record {
  names : l.names.items ≡ map (λ t. t.name) (take l.tenant-index l.tenants);
  room : length l.tenants ≤ vec_capacity l.names;
}
