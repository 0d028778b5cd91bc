-- What contracts see of a network.
use Rattle.tenant_core.specs.Network.{Net}
use Rattle.tenant_core.specs.declared.network.Network.TheInside.{Inside}

-- its parts, wherever they lie in memory
abbrev pub net_of : Inside → Net
net_of n = record { next_peer = n.next_peer; peers = n.peers.items; routes = n.routes; rates = n.rates }
