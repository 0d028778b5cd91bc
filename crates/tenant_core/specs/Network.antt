-- Whom a tenant deals with, and how: its peers, the routes to them, and the rates between them.
use Rattle.std.specs.Prelude.{ℕ, ◌≡◌, ◌≤◌, ◌<◌, ◌+◌, ℤ, Bool, true, false, not, ◌||◌, List, [], ◌∷◌, ◌++◌, map, length, find}
use Rattle.std.specs.Prelude.{All, Option, Some, None, IsSome, ◌==◌, nat_le, if◌then◌else◌, Result, Ok, Err, ◌&&◌}
use Rattle.std.specs.FinMap.{empty, get, contains_key, insert, remove, len}
use Rattle.std.specs.List.{filter, list_any, AllPairs}
use Rattle.std.specs.Str.{bytes_eq}
use Rattle.rate_bucket.specs.Bucket.{full_bucket}
use Rattle.route_table.specs.Routes.{RouteMap, max_routes}
use Rattle.route_table.specs.declared.hop.Hop.{Hop}
use Rattle.tenant_core.specs.Limits.{max_peers, max_peer_numbers, max_rates}
use Rattle.tenant_core.specs.Terms.{are_terms_within, is_balance_within}
use Rattle.tenant_core.specs.declared.faults.CommandFault.{CommandFault}
use Rattle.tenant_core.specs.declared.faults.CommandFault.TheVariants.{Present, Absent, Limit, Memory}
use Rattle.tenant_core.specs.declared.peer.Level.{Level}
use Rattle.tenant_core.specs.declared.peer.Peer.{Peer}
use Rattle.tenant_core.specs.declared.terms.BucketTerms.{BucketTerms}
use Rattle.tenant_core.specs.declared.terms.PeerLimits.{PeerLimits}
use Rattle.tenant_core.specs.declared.terms.PeerTerms.{PeerTerms}
use Rattle.tenant_core.specs.declared.terms.RateTerms.{RateTerms}

-- the peers in the order in which they were added, the number of the next one, which none ever had, the routes to
-- them, and the rates between them
pub record Net : Type 0 where
  pub next_peer : ℕ
  pub peers : List Peer
  pub routes : RouteMap
  pub rates : List RateTerms

-- nobody
abbrev pub nobody : Net
nobody = record { next_peer = 0; peers = []; routes = empty; rates = [] }

-- ---- who is there

-- the peer of this number
abbrev pub peer_numbered : ℕ → List Peer → Option Peer
peer_numbered n peers = find (λ p. p.number == n) peers

-- the peer that shows this token
abbrev pub peer_with_token : List ℕ → List Peer → Option Peer
peer_with_token token peers = find (λ p. bytes_eq p.terms.token token) peers

-- the peer of this name
abbrev pub peer_named : List ℕ → List Peer → Option Peer
peer_named name peers = find (λ p. bytes_eq p.terms.name name) peers

-- a peer has the name or the token of these terms
abbrev pub is_present : List Peer → PeerTerms → Bool
is_present peers t = list_any (λ p. bytes_eq p.terms.name t.name || bytes_eq p.terms.token t.token) peers

-- the rate is for this ordered pair of peers
abbrev pub is_for_pair : ℕ → ℕ → RateTerms → Bool
is_for_pair from to r = (r.from == from) && (r.to == to)

-- the rate names the peer of that number
abbrev pub names_peer : ℕ → RateTerms → Bool
names_peer n r = (r.from == n) || (r.to == n)

-- ---- what changes it

-- with one more peer, under the next number
abbrev pub with_peer : Net → PeerTerms → ℤ → Level → Net
with_peer net t balance level =
    record net {
      next_peer = net.next_peer + 1;
      peers = net.peers ++ (record { number = net.next_peer; terms = t; balance = balance; bucket = level }) ∷ [];
    }

-- without the peer of that number, and the rates that name it
abbrev pub without_peer : Net → ℕ → Net
without_peer net n =
    record net {
      peers = filter (λ p. not (p.number == n)) net.peers;
      rates = filter (λ r. not (names_peer n r)) net.rates;
    }

-- the peers, with the one of that number changed by that function
abbrev pub changed_peer : (Peer → Peer) → ℕ → List Peer → List Peer
changed_peer change n peers = map (λ p. if p.number == n then change p else p) peers

-- with other limits of the peer of that number
abbrev pub with_limits : Net → ℕ → PeerLimits → Net
with_limits net n limits =
    record net { peers = changed_peer (λ p. record p { terms = record p.terms { limits = limits } }) n net.peers }

-- with another bucket of the peer of that number, which has that level
abbrev pub with_bucket : Net → ℕ → BucketTerms → Level → Net
with_bucket net n bucket level =
    record net {
      peers = changed_peer (λ p. record p { terms = record p.terms { bucket = bucket }; bucket = level }) n net.peers;
    }

-- with one more route
abbrev pub with_route : Net → List ℕ → Hop → Net
with_route net prefix hop = record net { routes = insert net.routes prefix hop }

-- without a route
abbrev pub without_route : Net → List ℕ → Net
without_route net prefix = record net { routes = remove net.routes prefix }

-- a rate for that pair is there
abbrev pub has_pair : RateTerms → List RateTerms → Bool
has_pair r rates = list_any (is_for_pair r.from r.to) rates

-- the rates, the one for the same pair replaced
abbrev pub replaced_rate : RateTerms → List RateTerms → List RateTerms
replaced_rate r rates = map (λ q. if is_for_pair r.from r.to q then r else q) rates

-- with a rate, in the place of the one for the same pair if there is one
abbrev pub with_rate : Net → RateTerms → Net
with_rate net r =
    record net { rates = if has_pair r net.rates then replaced_rate r net.rates else net.rates ++ r ∷ [] }

-- the peer as the first period of a tenant finds it, which begins at that clock: its bucket is full
abbrev pub filled : ℕ → Peer → Peer
filled clock p = record p { bucket = record { credit = full_bucket p.terms.bucket.burst; clock = clock; entries = 0 } }

-- the network as that period finds it
abbrev pub begun : ℕ → Net → Net
begun clock net = record net { peers = map (filled clock) net.peers }

-- ---- what is refused

-- a peer can't be added: its name or its token is there, there are 256, or all numbers were given
abbrev pub peer_refusal : Net → PeerTerms → Option CommandFault
peer_refusal net t =
    if is_present net.peers t then Some Present
    else (if nat_le max_peers (length net.peers) || nat_le max_peer_numbers net.next_peer then Some Limit else None)

-- a route can't be added: its prefix has one, or there are 4,096
abbrev pub route_refusal : Net → List ℕ → Option CommandFault
route_refusal net prefix =
    if contains_key net.routes prefix then Some Present
    else (if len net.routes == max_routes then Some Limit else None)

-- a route can't be removed if it is not there
abbrev pub no_route_refusal : Net → List ℕ → Option CommandFault
no_route_refusal net prefix = if contains_key net.routes prefix then None else Some Absent

-- a rate can't be set: its pair has none, and there are 4,096
abbrev pub rate_refusal : Net → RateTerms → Option CommandFault
rate_refusal net r =
    if has_pair r net.rates then None
    else (if nat_le max_rates (length net.rates) then Some Limit else None)

-- the result of a change: refused, or out of memory without being refused, and then nothing changed; or made
abbrev pub IsChanged : Result (Unit {0}) CommandFault → Option CommandFault → Net → Net → Net → Type 0
IsChanged (Ok done) refusal before after changed = (refusal ≡ None) × (after ≡ changed)
IsChanged (Err Memory) refusal before after changed = (refusal ≡ None) × (after ≡ before)
IsChanged (Err fault) refusal before after changed = (refusal ≡ Some fault) × (after ≡ before)

-- whom a network names, and by what
pub record IsNetwork (net : Net) : Type 0 where
  -- peers differ by number, by token and by name
  pub peers : length net.peers ≤ max_peers
  pub numbers : All (λ p. peer_numbered p.number net.peers ≡ Some p) net.peers
  pub tokens : All (λ p. peer_with_token p.terms.token net.peers ≡ Some p) net.peers
  pub names : All (λ p. peer_named p.terms.name net.peers ≡ Some p) net.peers
  -- numbers rise in the order in which peers were added
  pub rising : AllPairs (λ p q. p.number < q.number) net.peers
  -- the next peer has a number of its own
  pub next : All (λ p. p.number < net.next_peer) net.peers
  pub few : net.next_peer ≤ max_peer_numbers
  -- routes and rates name peers that are there, and an ordered pair has one rate
  pub routes : (prefix : List ℕ) (hop : Hop) → get net.routes prefix ≡ Some hop → IsSome (peer_numbered hop.peer net.peers)
  pub senders : All (λ r. IsSome (peer_numbered r.from net.peers)) net.rates
  pub receivers : All (λ r. IsSome (peer_numbered r.to net.peers)) net.rates
  pub rates : All (λ r. find (is_for_pair r.from r.to) net.rates ≡ Some r) net.rates
  -- whose two peers are not the same
  pub apart : All (λ r. (r.from == r.to) ≡ false) net.rates
  pub few_rates : length net.rates ≤ max_rates
  -- what is agreed with each peer is within its limits, and so is what it owed at first
  pub terms : All (λ p. are_terms_within p.terms ≡ true) net.peers
  pub balances : All (λ p. is_balance_within p.balance ≡ true) net.peers
