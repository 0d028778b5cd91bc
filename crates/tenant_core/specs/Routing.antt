-- Where a packet goes, and by when.
use Rattle.std.specs.Prelude.{ℕ, ◌+◌, ◌-◌, Bool, ◌||◌, List, find, min, Option, Some, None}
use Rattle.std.specs.Prelude.{option_map, option_and_then, ◌==◌, if◌then◌else◌}
use Rattle.std.specs.Str.{bytes_eq}
use Rattle.money_core.specs.Fraction.{Fraction}
use Rattle.ilp_addr.specs.OwnAddress.{is_for_neighbors}
use Rattle.route_table.specs.Routes.{best_route}
use Rattle.route_table.specs.declared.hop.Hop.{Hop}
use Rattle.tenant_core.specs.Network.{Net, peer_numbered, is_for_pair}
use Rattle.tenant_core.specs.declared.opening.Opening.{Opening}
use Rattle.tenant_core.specs.declared.peer.Peer.{Peer}

-- addresses that no packet is sent on for: those for direct neighbours (RFC 0015, "Allocation Schemes"), and the
-- tenant's own
abbrev pub stays_here : Opening → List ℕ → Bool
stays_here o destination = is_for_neighbors destination || bytes_eq destination o.address

-- the peer that a packet goes on to, and the fee that is kept of it
pub record Way : Type 0 where
  pub peer : Peer
  pub fee : ℕ

-- a hop to a peer other than the sender
abbrev pub another : ℕ → Hop → Option Hop
another from hop = if hop.peer == from then None else Some hop

-- the way by a hop, if its peer is there
abbrev pub way_by : Net → Hop → Option Way
way_by net hop = option_map (λ p. record { peer = p; fee = hop.fee }) (peer_numbered hop.peer net.peers)

-- the way that a packet goes on: that of the best route, unless it leads back
abbrev pub onward : Net → ℕ → List ℕ → Option Way
onward net from destination =
    option_and_then (way_by net) (option_and_then (another from) (best_route net.routes destination))

-- the rate of an ordered pair of peers
abbrev pub rate_between : Net → ℕ → ℕ → Option Fraction
rate_between net from to = option_map (λ r. r.rate) (find (is_for_pair from to) net.rates)

-- the expiry that a packet goes on with: earlier by the margin, and no later than it may be held
abbrev pub outgoing_expiry : Opening → ℕ → ℕ → ℕ
outgoing_expiry o expiry clock = min (expiry - o.margin) (clock + o.hold)
