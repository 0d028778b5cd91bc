use Rattle.std.proofs.Common.{List, ap, map, sym, ◌∙◌}
use Rattle.route_table.specs.Routes.{RouteMap}
use Rattle.tenant_core.specs.declared.peer.Peer.{Peer}
use Rattle.tenant_core.specs.declared.terms.RateTerms.{RateTerms}
use Rattle.tenant_core.specs.Network.{Net}
use Rattle.tenant_core.specs.Nets.{net_of}
use Rattle.tenant_core.specs.Places.{token}
use Rattle.tenant_core.proofs.Networks.{is_network}
use Rattle.tenant_core.proofs.Tokens.{same_tokens}
use Rattle.tenant_core.proofs.network.Network.with_peers.Goals as goal

pub invariant_of-result : goal.invariant_of-result
invariant_of-result c =
    let net : Net = net_of c.self.inside in
    let peers : List Peer = c.args.peers.items in
    let by_token = c.in_ok-by_token.ensures.items ∙ c.as_slice.ensures.value in
    let with_routes : RouteMap → Net = λ m. record net { peers = peers; routes = m; rates = c.in_ok-rates.rates } in
    let with_rates : List RateTerms → Net = λ rs. record net { peers = peers; rates = rs } in
    let tokens = c.requires.tokens ∙ ap (λ (n : Net). map token n.peers) (sym c.self.view_is) in
    record {
      network = is_network _ _ (ap with_routes c.in_ok-routes.ensures ∙ (ap with_rates c.in_ok-rates.ensures ∙ ap (λ (n : Net). record n { peers = peers }) c.self.view_is)) c.requires.network;
      tokens = rw by_token (same_tokens net.peers peers c.self.inside.by_token.items tokens c.self.invariant.tokens);
    }
