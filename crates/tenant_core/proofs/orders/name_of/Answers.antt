use Rattle.std.proofs.Common.{◌≡◌, ap, sym, ◌∙◌}
use Rattle.std.specs.Prelude.{Some}
use Rattle.tenant_core.specs.Network.{peer_numbered}
use Rattle.tenant_core.specs.Orders.{number_named}
use Rattle.tenant_core.specs.declared.peer.Peer.{Peer}
use Rattle.tenant_core.specs.declared.terms.PeerTerms.{PeerTerms}
use Rattle.tenant_core.proofs.Followings.{name_back}
use Rattle.tenant_core.proofs.orders.name_of.Goals as goal

pub returns-clause-found : goal.returns-clause-found
returns-clause-found c =
    let p : Peer = c.in_ok-peer.peer.now in
    let found : peer_numbered c.args.number c.args.network.now.peers ≡ Some p = sym c.in_ok-peer.ensures in
    ap (number_named c.args.network.now) (c.copy.ensures ∙ ap (λ (t : PeerTerms). t.name) c.deref.ensures) ∙ name_back c.args.network.now c.args.number p c.is_network.ensures found
