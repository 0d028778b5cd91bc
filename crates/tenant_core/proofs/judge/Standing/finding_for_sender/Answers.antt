use Rattle.std.proofs.Common.{◌≡◌, subst}
use Rattle.std.specs.Prelude.{Some}
use Rattle.tenant_core.specs.Findings.{verdict_of}
use Rattle.tenant_core.specs.Network.{Net, peer_numbered}
use Rattle.tenant_core.specs.Present.{network_of}
use Rattle.tenant_core.specs.Routing.{Way}
use Rattle.tenant_core.specs.Standing.{state_shown, peer_of, way_of}
use Rattle.tenant_core.specs.State.{State}
use Rattle.tenant_core.specs.declared.peer.Peer.{Peer}
use Rattle.tenant_core.proofs.Runnings.{onward_found, goes_on}
use Rattle.tenant_core.proofs.judge.Standing.finding_for_sender.Goals as goal

pub returns-clause-goes : goal.returns-clause-goes
returns-clause-goes c =
    let s : State = state_shown c.args.self.now in
    let way : Way = way_of c.in-Ok.way in
    let to : Peer = way.peer in
    let net : Net = c.args.self.now.network.now in
    let found : peer_numbered to.number net.peers ≡ Some to = onward_found net (peer_of c.args.from.now).number c.args.key.now.destination.now way c.in-Ok.ensures.way in
    let here : peer_numbered to.number (network_of s).peers ≡ Some to = subst (λ (n : Net). peer_numbered to.number n.peers ≡ Some to) c.requires.shown.network found in
    goes_on s (peer_of c.args.from.now) to c.args.key.now.amount (verdict_of c.finding_at_rate.result) here c.finding_at_rate.ensures.goes
