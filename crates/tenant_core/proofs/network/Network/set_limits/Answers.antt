use Rattle.std.proofs.Common.{◌≡◌, List, ap, refl, map, ◌∙◌}
use Rattle.std.proofs.lemmas.Bool.{and_parts, and_from}
use Rattle.tenant_core.specs.declared.peer.Peer.{Peer}
use Rattle.tenant_core.specs.Network.{Net, changed_peer, with_limits}
use Rattle.tenant_core.specs.Nets.{net_of}
use Rattle.tenant_core.specs.Places.{token}
use Rattle.tenant_core.proofs.ChangedLists.{changed_as_seen}
use Rattle.tenant_core.proofs.Networks.{one_changed_is, is_network}
use Rattle.tenant_core.proofs.Tokens.{same_tokens, token_stays}
use Rattle.tenant_core.proofs.network.Network.set_limits.Goals as goal

pub invariant_of-self-2 : goal.invariant_of-self-2
invariant_of-self-2 c =
    let net : Net = net_of c.self.inside in
    let others : List Peer → Net = λ ps. record net { peers = ps } in
    let change : Peer → Peer = λ p. record p { terms = record p.terms { limits = c.args.limits.now } } in
    let is : c.change_limits.new.peers.items ≡ changed_peer change c.args.number net.peers =
    changed_as_seen change net _ c.args.number c.place_numbered-place.result _ c.self.view_is c.self.invariant.network
    c.place_numbered-place.ensures.inside c.place_numbered-place.ensures.value c.in_ok-change_limits.ensures.changed in
    record {
      network = is_network _ (with_limits net c.args.number c.args.limits.now) (ap others is)
          (one_changed_is net c.args.number change (λ p. refl) (λ p. refl) (λ p. refl)
          (λ p e. and_from _ _ (and_from _ _ c.are_within.ensures (and_parts _ _ (and_parts _ _ e).0).1) (and_parts _ _ e).1) (λ p. refl) c.self.invariant.network);
      tokens = same_tokens net.peers _ c.self.inside.by_token.items (ap (map token) is ∙ token_stays change c.args.number (λ p. refl) net.peers) c.self.invariant.tokens;
    }

pub returns : goal.returns
returns c =
    let change : Peer → Peer = λ p. record p { terms = record p.terms { limits = c.args.limits.now } } in
    rw (← c.self.view_is) (
      refl,
      ap (λ (ps : List Peer). let n : Net = record (net_of c.self.inside) { peers = ps } in n)
          (changed_as_seen change (net_of c.self.inside) _ c.args.number c.place_numbered-place.result _ c.self.view_is c.self.invariant.network
          c.place_numbered-place.ensures.inside c.place_numbered-place.ensures.value c.in_ok-change_limits.ensures.changed),
    )
