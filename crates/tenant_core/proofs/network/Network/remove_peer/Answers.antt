use Rattle.std.proofs.Common.{List, ap, arith, subst, sym, not, eqb, length, ◌∙◌}
use Rattle.std.proofs.lemmas.Cmp.{nat_list_cmp_total}
use Rattle.route_table.specs.Routes.{NamesPeer}
use Rattle.tenant_core.specs.declared.peer.Peer.{Peer}
use Rattle.tenant_core.specs.declared.terms.RateTerms.{RateTerms}
use Rattle.tenant_core.specs.Network.{Net, without_peer}
use Rattle.tenant_core.specs.Nets.{net_of}
use Rattle.tenant_core.specs.Places.{token_at, IsByToken}
use Rattle.tenant_core.proofs.Indexes.{kept_fewer, size}
use Rattle.tenant_core.proofs.Networks.{without_peer_is, is_network}
use Rattle.tenant_core.proofs.network.Network.remove_peer.Goals as goal

pub order_by_token-requires-clause-few : goal.order_by_token-requires-clause-few
order_by_token-requires-clause-few c =
    let kept = kept_fewer (λ p. not (eqb p.number c.args.number)) c.self.inside.peers.items in
    let left = ap length (c.deref.ensures.value ∙ c.drop_peer.ensures) in
    let few = c.self.invariant.network.peers in
    omega arith

pub order_by_token-requires-clause-room : goal.order_by_token-requires-clause-room
order_by_token-requires-clause-room c =
    let kept = kept_fewer (λ p. not (eqb p.number c.args.number)) c.self.inside.peers.items in
    let left = ap length (c.deref.ensures.value ∙ c.drop_peer.ensures) in
    let long = size nat_list_cmp_total (token_at c.self.inside.peers.items) (length c.self.inside.peers.items) c.self.inside.by_token.items c.self.invariant.tokens in
    omega arith

pub invariant_of-self-2 : goal.invariant_of-self-2
invariant_of-self-2 c =
    let net : Net = net_of c.self.inside in
    let peers : List Peer → Net = λ ps. record net { peers = ps; rates = c.drop_named.new.self } in
    let rates : List RateTerms → Net = λ rs. record (without_peer net c.args.number) { rates = rs } in
    record {
      network = is_network _ (without_peer net c.args.number) (ap peers c.drop_peer.ensures ∙ ap rates c.in_ok-drop_named.ensures.dropped)
          (without_peer_is net c.args.number c.self.invariant.network (subst (λ (n : Net). NamesPeer n.routes c.args.number → ⊥) (sym c.self.view_is) c.requires));
      tokens = subst (λ ps. IsByToken ps c.order_by_token.new.order.items) c.deref.ensures.value c.order_by_token.ensures;
    }
