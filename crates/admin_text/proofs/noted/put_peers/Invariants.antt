use Rattle.std.proofs.Common.{◌≡◌, ◌++◌, take}
use Rattle.std.specs.List.{flat_map}
use Rattle.admin_text.specs.Notes.{notes_of_peer}
use Rattle.admin_text.proofs.noted.put_peers.Given as goal

abbrev pub invariant-loop-peer : goal.invariant-loop-peer
invariant-loop-peer l =
    l.found.items ≡ l.fn.found.items ++ flat_map (notes_of_peer l.tenant) (take l.peer-index l.tenant.network.peers)
