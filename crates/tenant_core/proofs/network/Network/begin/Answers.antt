use Rattle.std.proofs.Common.{List, ap, refl, map, ◌∙◌}
use Rattle.tenant_core.specs.declared.peer.Peer.{Peer}
use Rattle.tenant_core.specs.Network.{Net, begun, filled}
use Rattle.tenant_core.specs.Nets.{net_of}
use Rattle.tenant_core.specs.Places.{token}
use Rattle.tenant_core.proofs.Networks.{changed_is, is_network}
use Rattle.tenant_core.proofs.Tokens.{same_tokens, tokens_stay}
use Rattle.tenant_core.proofs.network.Network.begin.Goals as goal

pub invariant_of-self : goal.invariant_of-self
invariant_of-self c =
    let net : Net = net_of c.self.inside in
    let others : List Peer → Net = λ ps. record net { peers = ps } in
    record {
      network = is_network _ (begun c.args.clock net) (ap others c.fill_buckets.ensures)
          (changed_is net (filled c.args.clock) (λ p. refl) (λ p. refl) (λ p. refl) (λ p e. e) (λ p e. e) c.self.invariant.network);
      tokens = same_tokens net.peers _ c.self.inside.by_token.items (ap (map token) c.fill_buckets.ensures ∙ tokens_stay (filled c.args.clock) (λ p. refl) net.peers) c.self.invariant.tokens;
    }
