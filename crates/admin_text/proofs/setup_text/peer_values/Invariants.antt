use Rattle.std.proofs.Common.{take}
use Rattle.toml.specs.View.{items_view}
use Rattle.admin_text.specs.Told.{AllTold, TellsPeer}
use Rattle.admin_text.proofs.setup_text.peer_values.Given as goal

abbrev pub invariant-loop-peer : goal.invariant-loop-peer
invariant-loop-peer l = AllTold TellsPeer (items_view l.values.items) (take l.peer-index l.peers)
