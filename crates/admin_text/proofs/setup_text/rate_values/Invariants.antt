use Rattle.std.proofs.Common.{take}
use Rattle.toml.specs.View.{items_view}
use Rattle.admin_text.specs.Told.{AllTold, TellsRate}
use Rattle.admin_text.proofs.setup_text.rate_values.Given as goal

abbrev pub invariant-loop-rate : goal.invariant-loop-rate
invariant-loop-rate l = AllTold (TellsRate l.network.peers) (items_view l.values.items) (take l.rate-index l.rates)
