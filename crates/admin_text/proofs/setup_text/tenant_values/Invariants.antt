use Rattle.std.proofs.Common.{take}
use Rattle.toml.specs.View.{items_view}
use Rattle.admin_text.specs.Told.{AllTold, TellsTenant}
use Rattle.admin_text.proofs.setup_text.tenant_values.Given as goal

abbrev pub invariant-loop-tenant : goal.invariant-loop-tenant
invariant-loop-tenant l = AllTold TellsTenant (items_view l.values.items) (take l.tenant-index l.tenants)
