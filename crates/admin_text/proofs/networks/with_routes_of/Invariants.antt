use Rattle.std.proofs.Common.{◌≡◌, drop}
use Rattle.toml.specs.View.{items_view}
use Rattle.admin_text.specs.Networks.{with_routes_of}
use Rattle.admin_text.proofs.networks.with_routes_of.Given as goal

abbrev pub invariant-loop-at : goal.invariant-loop-at
invariant-loop-at l = with_routes_of l.version l.network (items_view (drop l.at l.values)) ≡ with_routes_of l.version l.fn.network (items_view l.values)
