use Rattle.std.proofs.Common.{rules, ◌≡◌, List, subst, sym}
use Rattle.tenant_core.specs.Network.{Net, IsNetwork}
use Rattle.tenant_core.specs.declared.peer.Peer.{Peer}
use Rattle.tenant_core.proofs.network.Network.copy.Goals as goal

pub with_peers-requires-clause-network : goal.with_peers-requires-clause-network
with_peers-requires-clause-network c =
    let net : Net = c.args.self.now in
    let is : c.in_ok-peers.peers.items ≡ net.peers = search rules in
    subst (λ (ps : List Peer). IsNetwork (record net { peers = ps })) (sym is) c.peers.ensures.network
