use Rattle.tenant_core.proofs.PeersTold.{peer_law}
use Rattle.tenant_core.proofs.laws.peers.Goals as goal

pub returns : goal.returns
returns c = peer_law
