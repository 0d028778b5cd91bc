use Rattle.std.proofs.Common.{List, [], ap, ◌∙◌}
use Rattle.std.specs.Cmp.Lexicographic.{slice_cmp}
use Rattle.std.specs.Ordering.{nat_cmp}
use Rattle.route_table.specs.Routes.{RouteMap}
use Rattle.tenant_core.specs.declared.peer.Peer.{Peer}
use Rattle.tenant_core.specs.declared.terms.RateTerms.{RateTerms}
use Rattle.tenant_core.specs.Network.{Net, nobody}
use Rattle.tenant_core.specs.Places.{token_at}
use Rattle.tenant_core.proofs.Indexes.{no_places}
use Rattle.tenant_core.proofs.Networks.{nobody_is, is_network}
use Rattle.tenant_core.proofs.network.Network.new.Goals as goal

pub invariant_of-result : goal.invariant_of-result
invariant_of-result c =
    let routes : RouteMap → Net = λ m. record nobody { peers = c.new.result.items; routes = m; rates = c.new-4.result } in
    let peers : List Peer → Net = λ ps. record nobody { peers = ps; rates = c.new-4.result } in
    let rates : List RateTerms → Net = λ rs. record nobody { rates = rs } in
    record {
      network = is_network _ nobody (ap routes c.new-3.ensures ∙ ap peers c.new.ensures.items ∙ ap rates c.new-4.ensures) nobody_is;
      tokens = rw (c.new.ensures.items, c.new-2.ensures.items) (no_places (slice_cmp nat_cmp) (token_at []));
    }
