-- Values that describe peers, routes, rates and tenants, as they are made for a setup.
use Rattle.std.specs.Prelude.{◌≡◌, ◌≤◌, List, [], ◌∷◌, Some, map, length, true}
use Rattle.std.specs.FinMap.{from_entries}
use Rattle.std.specs.List.{IsDistinct}
use Rattle.std.specs.Str.{bytes_eq}
use Rattle.toml.specs.Data.{Data, table, Items, no_items, item}
use Rattle.common_types.specs.Names.{is_name}
use Rattle.common_types.specs.Numbers.{is_between}
use Rattle.common_types.specs.Token.{is_token}
use Rattle.ilp_addr.specs.Address.{IsPrefix}
use Rattle.ilp_addr.specs.OwnAddress.{is_own_address}
use Rattle.money_core.specs.Fraction.{IsFraction}
use Rattle.route_table.specs.Listing.{entry_of}
use Rattle.route_table.specs.Routes.{max_routes}
use Rattle.route_table.specs.declared.route.Route.{Route}
use Rattle.money_core.specs.Account.{max_money}
use Rattle.tenant_core.specs.Network.{Net, IsNetwork, peer_numbered}
use Rattle.tenant_core.specs.Places.{ArePairsApart}
use Rattle.tenant_core.specs.Setup.{is_tenant_setup}
use Rattle.tenant_core.specs.Terms.{is_balance_within}
use Rattle.tenant_core.specs.declared.peer.Peer.{Peer}
use Rattle.tenant_core.specs.declared.terms.RateTerms.{RateTerms}
use Rattle.tenant_core.specs.declared.terms.TenantTerms.{TenantTerms}
use Rattle.admin_text.specs.Fields.{AreWithin}
use Rattle.admin_text.specs.Made.{peer_members, route_members, rate_members, tenant_members}
use Rattle.admin_text.specs.PeerFields.{fields_of, peer_rows, peer_values}

-- each item means the value at its place in the list
abbrev pub AllTold : {A : Type 0} → (Data → A → Type 0) → Items → List A → Type 0
AllTold tells no_items [] = Unit {0}
AllTold tells no_items (x ∷ xs) = ⊥
AllTold tells (item first others) [] = ⊥
AllTold tells (item first others) (x ∷ xs) = tells first x × AllTold tells others xs

-- the limits that the types of a peer's parts guarantee
abbrev pub IsKnown : Peer → Type 0
IsKnown p = AreWithin (fields_of peer_rows) (peer_values p.terms) × (is_balance_within p.balance ≡ true)

-- a peer
abbrev pub TellsPeer : Data → Peer → Type 0
TellsPeer d p = (d ≡ table (peer_members p)) × IsKnown p

-- a route to one of these peers
pub record TellsRoute (peers : List Peer) (d : Data) (r : Route) : Type 0 where
  pub peer : Peer
  pub there : peer_numbered r.hop.peer peers ≡ Some peer
  pub told : d ≡ table (route_members r.prefix peer.terms.name r.hop.fee)
  pub prefix : IsPrefix r.prefix
  pub name : is_name peer.terms.name ≡ true
  pub fee : is_between 0 max_money r.hop.fee ≡ true

-- a rate between two of these peers
pub record TellsRate (peers : List Peer) (d : Data) (r : RateTerms) : Type 0 where
  pub from : Peer
  pub to : Peer
  pub from_there : peer_numbered r.from peers ≡ Some from
  pub to_there : peer_numbered r.to peers ≡ Some to
  pub told : d ≡ table (rate_members from.terms.name to.terms.name r.rate)
  pub from_name : is_name from.terms.name ≡ true
  pub to_name : is_name to.terms.name ≡ true
  pub fraction : IsFraction r.rate.numerator r.rate.denominator

-- routes list those of a network, each once
pub record IsList (net : Net) (routes : List Route) : Type 0 where
  pub all : from_entries (map entry_of routes) ≡ net.routes
  pub once : IsDistinct bytes_eq (map (λ r. r.prefix) routes)
  pub few : length routes ≤ max_routes

-- whom a tenant deals with
pub record TellsNetwork (peers routes rates : Items) (net : Net) : Type 0 where
  pub network : IsNetwork net
  pub apart : ArePairsApart net.rates
  pub list : List Route
  pub listed : IsList net list
  pub peers_told : AllTold TellsPeer peers net.peers
  pub routes_told : AllTold (TellsRoute net.peers) routes list
  pub rates_told : AllTold (TellsRate net.peers) rates net.rates

-- a tenant
pub record TellsTenant (d : Data) (t : TenantTerms) : Type 0 where
  pub peers : Items
  pub routes : Items
  pub rates : Items
  pub told : d ≡ table (tenant_members t peers routes rates)
  pub network : TellsNetwork peers routes rates t.network
  pub name : is_name t.name ≡ true
  pub address : is_own_address t.address ≡ true
  pub admin : is_token t.admin ≡ true
  pub within : is_tenant_setup t ≡ true
