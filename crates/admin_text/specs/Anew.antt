-- A tenant as a setup says it: peers are numbered anew, and buckets hold nothing before a period begins.
use Rattle.std.specs.Prelude.{ℕ, ◌+◌, ◌==◌, ◌≤◌, List, [], ◌∷◌, map, length}
use Rattle.std.specs.FinMap.{from_entries, entries}
use Rattle.std.specs.List.{IsDistinct, position_or_len}
use Rattle.std.specs.Str.{bytes_eq}
use Rattle.route_table.specs.Routes.{RouteMap}
use Rattle.route_table.specs.declared.hop.Hop.{Hop}
use Rattle.tenant_core.specs.Limits.{max_tenants}
use Rattle.tenant_core.specs.Network.{Net}
use Rattle.tenant_core.specs.declared.peer.Peer.{Peer}
use Rattle.tenant_core.specs.declared.terms.RateTerms.{RateTerms}
use Rattle.tenant_core.specs.declared.terms.TenantTerms.{TenantTerms}
use Rattle.admin_text.specs.Networks.{no_level}

-- the peers, numbered from that number on in their order, with empty buckets
abbrev pub peers_from : ℕ → List Peer → List Peer
peers_from first [] = []
peers_from first (p ∷ peers) = (record p { number = first; bucket = no_level }) ∷ peers_from (first + 1) peers

-- the new number of a peer: how many peers come before the one of that number
abbrev pub number_anew : List Peer → ℕ → ℕ
number_anew peers n = position_or_len (λ p. p.number == n) peers

-- a hop to the same peer
abbrev pub hop_anew : List Peer → Hop → Hop
hop_anew peers hop = record { peer = number_anew peers hop.peer; fee = hop.fee }

-- the same routes
abbrev pub routes_anew : List Peer → RouteMap → RouteMap
routes_anew peers routes = from_entries (map (λ e. (e.0, hop_anew peers e.1)) (entries routes))

-- the same rate
abbrev pub rate_anew : List Peer → RateTerms → RateTerms
rate_anew peers r = record { from = number_anew peers r.from; to = number_anew peers r.to; rate = r.rate }

-- a network whose peers are numbered anew, from 0
abbrev pub net_anew : Net → Net
net_anew net =
    record {
      next_peer = length net.peers;
      peers = peers_from 0 net.peers;
      routes = routes_anew net.peers net.routes;
      rates = map (rate_anew net.peers) net.rates;
    }

-- a tenant with such a network
abbrev pub anew : TenantTerms → TenantTerms
anew t = record t { network = net_anew t.network }

-- tenants that a setup may have: 1 to 64, no two of one name
pub record AreTenants (tenants : List TenantTerms) : Type 0 where
  pub some : 1 ≤ length tenants
  pub few : length tenants ≤ max_tenants
  pub names : IsDistinct bytes_eq (map (λ t. t.name) tenants)
