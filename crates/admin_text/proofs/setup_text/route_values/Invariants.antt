use Rattle.std.proofs.Common.{take}
use Rattle.toml.specs.View.{items_view}
use Rattle.admin_text.specs.Told.{AllTold, TellsRoute}
use Rattle.admin_text.proofs.setup_text.route_values.Given as goal

abbrev pub invariant-loop-route : goal.invariant-loop-route
invariant-loop-route l = AllTold (TellsRoute l.network.peers) (items_view l.values.items) (take l.route-index l.routes)
