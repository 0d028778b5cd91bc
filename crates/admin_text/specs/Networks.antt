-- Whom a tenant deals with at the start: peers, routes and rates in the order given, each by the rules of the commands.
use Rattle.std.specs.Prelude.{ℕ, ◌==◌, List, codes, if◌then◌else◌, Option, Some, None}
use Rattle.std.specs.Result.{result_ok}
use Rattle.toml.specs.Data.{Data, Items, no_items, item, Members, as_table}
use Rattle.money_core.specs.Price.{rate_at}
use Rattle.money_core.specs.Account.{max_money}
use Rattle.tenant_core.specs.Network.{Net, nobody, with_peer, peer_refusal, with_route, route_refusal, with_rate, rate_refusal}
use Rattle.tenant_core.specs.Orders.{number_named}
use Rattle.tenant_core.specs.declared.faults.CommandFault.{CommandFault}
use Rattle.tenant_core.specs.declared.peer.Level.{Level}
use Rattle.tenant_core.specs.declared.terms.RateTerms.{RateTerms}
use Rattle.common_types.specs.OptionChain.{◌>>=◌}
use Rattle.admin_text.specs.Keys.{string_under, number_under, number_or, within, items_under}
use Rattle.admin_text.specs.Under.{name_under, peer_terms_of, starting_balance}
use Rattle.admin_text.specs.Prefixes.{written_prefix}
use Rattle.admin_text.specs.Versions.{has_fees}
use Rattle.admin_text.specs.declared.version.Version.{Version}

-- a network, unless what was to make it is refused
abbrev pub unless : Option CommandFault → Net → Option Net
unless None net = Some net
unless (Some fault) net = None

-- what a bucket holds before a period begins
abbrev pub no_level : Level
no_level = record { credit = 0; clock = 0; entries = 0 }

-- the network with the peer of a table
abbrev pub with_peer_of : Net → Members → Option Net
with_peer_of net t = do
  terms ← peer_terms_of t
  balance ← starting_balance t
  unless (peer_refusal net terms) (with_peer net terms balance no_level)

-- with the peer of a value, if that is a table
abbrev pub with_peer_in : Net → Data → Option Net
with_peer_in net value = as_table value >>= with_peer_of net

-- with the peers of the items
unfoldable pub with_peers_of : Net → Items → Option Net
with_peers_of net no_items = Some net
with_peers_of net (item first others) = do
  more ← with_peer_in net first
  with_peers_of more others

-- the number of the peer of the name at a key
unfoldable pub peer_under : Net → List ℕ → Members → Option ℕ
peer_under net key t = name_under key t >>= number_named net

-- the fee of a route's table, 0 if nothing is said or the key doesn't count
unfoldable pub fee_of : Version → Members → Option ℕ
fee_of version t = if has_fees version then number_or 0 (codes "fee") t >>= within 0 max_money else Some 0

-- with the route of a table
unfoldable pub with_route_of : Version → Net → Members → Option Net
with_route_of version net t = do
  text ← string_under (codes "prefix") t
  prefix ← written_prefix text
  peer ← peer_under net (codes "peer") t
  fee ← fee_of version t
  unless (route_refusal net prefix) (with_route net prefix (record { peer = peer; fee = fee }))

-- with the route of a value, if that is a table
abbrev pub with_route_in : Version → Net → Data → Option Net
with_route_in version net value = as_table value >>= with_route_of version net

-- with the routes of the items
unfoldable pub with_routes_of : Version → Net → Items → Option Net
with_routes_of version net no_items = Some net
with_routes_of version net (item first others) = do
  more ← with_route_in version net first
  with_routes_of version more others

-- the rate of a table, between two different peers
unfoldable pub rate_of : Net → Members → Option RateTerms
rate_of net t = do
  from ← peer_under net (codes "from") t
  to ← peer_under net (codes "to") t
  num ← number_under (codes "num") t
  den ← number_under (codes "den") t
  rate ← result_ok (rate_at num den)
  if from == to then None else Some (record { from = from; to = to; rate = rate })

-- with the rate of a table, in the place of one for the same pair
unfoldable pub with_rate_of : Net → Members → Option Net
with_rate_of net t = do
  rate ← rate_of net t
  unless (rate_refusal net rate) (with_rate net rate)

-- with the rate of a value, if that is a table
abbrev pub with_rate_in : Net → Data → Option Net
with_rate_in net value = as_table value >>= with_rate_of net

-- with the rates of the items
unfoldable pub with_rates_of : Net → Items → Option Net
with_rates_of net no_items = Some net
with_rates_of net (item first others) = do
  more ← with_rate_in net first
  with_rates_of more others

-- the network of a tenant's table
unfoldable pub network_in_table : Version → Members → Option Net
network_in_table version t = do
  peers ← items_under (codes "peer") t
  routes ← items_under (codes "route") t
  rates ← items_under (codes "rate") t
  reached ← with_peers_of nobody peers
  routed ← with_routes_of version reached routes
  with_rates_of routed rates
