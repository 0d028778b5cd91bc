use Rattle.std.proofs.Common.{rules, ◌≡◌, List, ap, map, refl, sym, subst, ◌∙◌}
use Rattle.tenant_core.specs.Network.{Net, IsNetwork}
use Rattle.tenant_core.specs.Periods.{carried, carried_net}
use Rattle.tenant_core.specs.Places.{token}
use Rattle.tenant_core.specs.Standing.{state_shown}
use Rattle.tenant_core.specs.declared.peer.Peer.{Peer}
use Rattle.tenant_core.proofs.Networks.{carried_is}
use Rattle.tenant_core.proofs.Tokens.{tokens_stay}
use Rattle.tenant_core.proofs.periods.next_network.Goals as goal

pub with_peers-requires-clause-network : goal.with_peers-requires-clause-network
with_peers-requires-clause-network c =
    let s = state_shown c.args.standing.now in
    let net : Net = c.args.standing.now.network.now in
    let network : IsNetwork net = subst (λ (n : Net). IsNetwork n) (sym c.requires.shown.network) c.requires.shown.sound.network in
    let is : c.in_ok-peers.peers.items ≡ (carried_net s c.args.clock net).peers = search rules in
    subst (λ (ps : List Peer). IsNetwork (record net { peers = ps })) (sym is) (carried_is s c.args.clock net c.requires.shown.sound.purses network)

pub with_peers-requires-clause-tokens : goal.with_peers-requires-clause-tokens
with_peers-requires-clause-tokens c =
    let s = state_shown c.args.standing.now in
    let net : Net = c.args.standing.now.network.now in
    let is : c.in_ok-peers.peers.items ≡ (carried_net s c.args.clock net).peers = search rules in
    ap (map token) is ∙ tokens_stay (carried s c.args.clock) (λ p. refl) net.peers
