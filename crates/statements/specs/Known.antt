-- What two descriptions of a tenant have in common: all but the tokens and the targets of its peers, which no
-- statement has. If one of them is a setup, the numbers of its peers and what their buckets hold do not count either,
-- since no setup has them.
use Rattle.std.specs.Prelude.{ℕ, ℤ, ◌≡◌, ◌⊎◌, ◌==◌, List, ◌∷◌, map, Option, Some, None, unwrap_or, if◌then◌else◌}
use Rattle.ildcp_core.specs.declared.child.Role.{Role}
use Rattle.route_table.specs.Routes.{RouteMap}
use Rattle.route_table.specs.declared.route.Route.{Route}
use Rattle.statements.specs.Statement.{AreRoutesOf}
use Rattle.tenant_core.specs.declared.opening.Opening.{Opening}
use Rattle.tenant_core.specs.declared.peer.Level.{Level}
use Rattle.tenant_core.specs.declared.peer.Peer.{Peer}
use Rattle.tenant_core.specs.declared.terms.BucketTerms.{BucketTerms}
use Rattle.tenant_core.specs.declared.terms.PeerLimits.{PeerLimits}
use Rattle.tenant_core.specs.declared.terms.RateTerms.{RateTerms}
use Rattle.tenant_core.specs.declared.terms.TenantTerms.{TenantTerms}

-- what is agreed with a peer, and what it owes
pub record Known : Type 0 where
  pub name : List ℕ
  pub role : Role
  pub asset : List ℕ
  pub scale : ℕ
  pub limits : PeerLimits
  pub bucket : BucketTerms
  pub balance : ℤ

abbrev pub known : Peer → Known
known p =
    record {
      name = p.terms.name;
      role = p.terms.role;
      asset = p.terms.asset;
      scale = p.terms.scale;
      limits = p.terms.limits;
      bucket = p.terms.bucket;
      balance = p.balance;
    }

-- the same under its number, with what its bucket holds: all that a statement has of a peer
pub record KnownByNumber : Type 0 where
  pub number : ℕ
  pub known : Known
  pub level : Level

abbrev pub stated : Peer → KnownByNumber
stated p = record { number = p.number; known = known p; level = p.bucket }

-- two openings are the same, but for the tokens and the targets of peers
pub record IsStatedAs (o other : Opening) : Type 0 where
  pub tenant : o.tenant ≡ other.tenant
  pub name : o.name ≡ other.name
  pub address : o.address ≡ other.address
  pub journal : o.journal ≡ other.journal
  pub margin : o.margin ≡ other.margin
  pub hold : o.hold ≡ other.hold
  pub period : o.period ≡ other.period
  pub clock : o.clock ≡ other.clock
  pub next_hold : o.next_hold ≡ other.next_hold
  pub next_peer : o.network.next_peer ≡ other.network.next_peer
  pub peers : map stated o.network.peers ≡ map stated other.network.peers
  pub routes : o.network.routes ≡ other.network.routes
  pub rates : o.network.rates ≡ other.network.rates

-- ---- numbered anew

-- the number of the other peer that is at the place of the peer of that number, if there is one
abbrev pub number_in_next : List Peer → List Peer → ℕ → Option ℕ
number_in_next (p ∷ ps) (q ∷ qs) n = if p.number == n then Some q.number else number_in_next ps qs n
number_in_next ps qs n = None

-- the same; 0 if none of these has that number
abbrev pub anew_or : List Peer → List Peer → ℕ → ℕ
anew_or ps qs n = unwrap_or (number_in_next ps qs n) 0

-- a route with its peer numbered so
abbrev pub led : (ℕ → ℕ) → Route → Route
led to r = record r { hop = record r.hop { peer = to r.hop.peer } }

-- a rate with its peers numbered so
abbrev pub rated : (ℕ → ℕ) → RateTerms → RateTerms
rated to r = record r { from = to r.from; to = to r.to }

-- the routes are the same, with their peers numbered so
pub record AreLed (to : ℕ → ℕ) (routes others : RouteMap) : Type 0 where
  pub listed : List Route
  pub before : AreRoutesOf routes listed
  pub after : AreRoutesOf others (map (led to) listed)

-- one setup of a tenant says what the other one does, but for the tokens, the targets and the numbers of peers, and what their
-- buckets hold
pub record IsSameSetup (t other : TenantTerms) : Type 0 where
  pub name : t.name ≡ other.name
  pub address : t.address ≡ other.address
  pub journal : t.journal ≡ other.journal
  pub margin : t.margin ≡ other.margin
  pub hold : t.hold ≡ other.hold
  pub peers : map known t.network.peers ≡ map known other.network.peers
  pub routes : AreLed (anew_or t.network.peers other.network.peers) t.network.routes other.network.routes
  pub rates : map (rated (anew_or t.network.peers other.network.peers)) t.network.rates ≡ other.network.rates

-- lists of the routes of both, of which one is not the other with its peers numbered so
pub record AreLedApart (to : ℕ → ℕ) (routes others : RouteMap) : Type 0 where
  pub listed : List Route
  pub listed_others : List Route
  pub before : AreRoutesOf routes listed
  pub after : AreRoutesOf others listed_others
  pub apart : ¬ (map (led to) listed ≡ listed_others)

-- one setup does not say what the other one does, or some lists of their routes differ, which have no order by these
-- definitions
abbrev pub IsOtherSetup : TenantTerms → TenantTerms → Type 0
IsOtherSetup t other =
    ¬ (IsSameSetup t other)
    ⊎ AreLedApart (anew_or t.network.peers other.network.peers) t.network.routes other.network.routes
