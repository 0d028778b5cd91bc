use Rattle.std.proofs.Common.{◌≡◌, List, ap, sym, ◌∙◌}
use Rattle.std.specs.Prelude.{Some, is_some}
use Rattle.std.specs.Str.{bytes_eq}
use Rattle.tenant_core.specs.declared.peer.Peer.{Peer}
use Rattle.tenant_core.specs.Network.{peer_named, peer_numbered}
use Rattle.tenant_core.proofs.Replays.{All-find}
use Rattle.tenant_core.proofs.orders.number_named.Goals as goal

pub returns-clause-present : goal.returns-clause-present
returns-clause-present c =
    let peers : List Peer = c.args.network.now.peers in
    let p : Peer = c.in_ok-peer.peer.now in
    let found : peer_named c.as_bytes.result.now peers ≡ Some p = ap (peer_named c.as_bytes.result.now) (sym c.peers.ensures.value) ∙ sym c.in_ok-peer.ensures in
    ap is_some (All-find (λ q. peer_numbered q.number peers ≡ Some q) (λ q. bytes_eq q.terms.name c.as_bytes.result.now) peers p c.peers.ensures.network.numbers found)

pub returns-clause-same : goal.returns-clause-same
returns-clause-same c =
    let peers : List Peer = c.args.network.now.peers in
    let p : Peer = c.in_ok-peer.peer.now in
    let found : peer_named c.as_bytes.result.now peers ≡ Some p = ap (peer_named c.as_bytes.result.now) (sym c.peers.ensures.value) ∙ sym c.in_ok-peer.ensures in
    All-find (λ q. peer_numbered q.number peers ≡ Some q) (λ q. bytes_eq q.terms.name c.as_bytes.result.now) peers p c.peers.ensures.network.numbers found
    ∙ (sym found ∙ ap (λ name. peer_named name peers) c.as_bytes.ensures.value)
