use Rattle.std.proofs.Common.{◌≡◌, drop, []}
use Rattle.toml.specs.View.{items_view}
use Rattle.admin_text.specs.Tenants.{tenants_of_items}
use Rattle.admin_text.proofs.setup.tenants_of_items.Given as goal

abbrev pub invariant-loop-value : goal.invariant-loop-value
invariant-loop-value l = tenants_of_items l.version l.tenants.items (items_view (drop l.value-index l.values)) ≡ tenants_of_items l.version [] (items_view l.values)
