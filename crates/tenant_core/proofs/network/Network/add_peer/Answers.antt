use Rattle.std.proofs.Common.{arith, rules, ◌≡◌, ◌≤◌, ◌+◌, ◌++◌, ◌∷◌, [], List, length, false, IsOk, ap, sym, ◌∙◌, refl}
use Rattle.std.specs.List.{insert}
use Rattle.std.proofs.lemmas.Bool.{not-true}
use Rattle.std.proofs.lemmas.Grind.{common_steps}
use Rattle.tenant_core.specs.declared.peer.Peer.{Peer}
use Rattle.tenant_core.specs.declared.terms.PeerTerms.{PeerTerms}
use Rattle.tenant_core.specs.Network.{Net, is_present, with_peer}
use Rattle.tenant_core.specs.Nets.{net_of}
use Rattle.tenant_core.specs.Places.{IsFreePlace}
use Rattle.tenant_core.specs.Terms.{is_balance_within}
use Rattle.tenant_core.proofs.Networks.{with_peer_is, is_network}
use Rattle.tenant_core.proofs.network.Network.add_peer.Goals as goal

pub invariant_of-self-2 : goal.invariant_of-self-2
invariant_of-self-2 c =
    let net : Net = net_of c.self.inside in
    let peer : Peer = record { number = net.next_peer; terms = c.args.terms; balance = c.args.balance; bucket = c.args.level } in
    let made : PeerTerms → List Peer = λ t. net.peers ++ record { number = net.next_peer; terms = t; balance = c.args.balance; bucket = c.args.level } ∷ [] in
    let few = c.if-place-ge-MAX_PEERS.false in
    let numbers = c.if-self-ge-MAX_PEER_NUMBERS.false in
    let count = c.len-place.ensures in
    let absent : is_present net.peers c.args.terms ≡ false = not-true _ (sym (rw c.deref.ensures.value at c.in-Some.ensures.free)) in
    let free : IsFreePlace net.peers c.self.inside.by_token.items c.args.terms.token c.in-Some.at = rw (c.deref.ensures.value, c.deref-2.ensures.value) at c.in-Some.ensures.place in
    let at_most : c.in-Some.at ≤ length c.self.inside.by_token.items = free.within in
    let place : c.len-place.result ≡ length net.peers = search rules in
    let peers : c.push.new.self.items ≡ net.peers ++ peer ∷ [] = c.in_ok-push.ensures.items ∙ ap made c.in_ok-terms.ensures in
    let ok : IsOk c.insert.result = c.insert.ensures.succeeds (search rules) in
    let order : c.insert.new.self.items ≡ insert c.self.inside.by_token.items c.in-Some.at (length net.peers) = grind (arith, common_steps, ok) in
    let more : List Peer → Net = λ ps. record net { next_peer = net.next_peer + 1; peers = ps } in
    record {
      network = is_network _ (with_peer net c.args.terms c.args.balance c.args.level) (ap more peers)
          (with_peer_is net c.args.terms c.args.balance c.args.level c.self.invariant.network absent (omega arith) (omega arith) c.are_within.ensures (ap is_balance_within (sym c.get.ensures.value) ∙ c.get.ensures.within));
      tokens = rw (peers, order) (free.ordered peer refl);
    }
