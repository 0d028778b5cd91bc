-- What a network keeps beside what contracts see of it.
use Rattle.tenant_core.specs.Network.{IsNetwork}
use Rattle.tenant_core.specs.Nets.{net_of}
use Rattle.tenant_core.specs.Places.{IsByToken}
use Rattle.tenant_core.specs.declared.network.Network.TheInside.{Inside}

-- an index by tokens
pub record IsIndexed (n : Inside) : Type 0 where
  pub network : IsNetwork (net_of n)
  pub tokens : IsByToken n.peers.items n.by_token.items
