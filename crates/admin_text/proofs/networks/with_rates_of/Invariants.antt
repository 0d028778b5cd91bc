use Rattle.std.proofs.Common.{◌≡◌, drop}
use Rattle.toml.specs.View.{items_view}
use Rattle.admin_text.specs.Networks.{with_rates_of}
use Rattle.admin_text.proofs.networks.with_rates_of.Given as goal

abbrev pub invariant-loop-at : goal.invariant-loop-at
invariant-loop-at l = with_rates_of l.network (items_view (drop l.at l.values)) ≡ with_rates_of l.fn.network (items_view l.values)
