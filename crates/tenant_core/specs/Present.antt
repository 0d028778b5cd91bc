-- Whom a tenant deals with at present, and how: what the accepted orders leave of what the period began with.
use Rattle.std.specs.Prelude.{ℕ, ◌+◌, pos, Option, Some, None, fold, length, min}
use Rattle.rate_bucket.specs.Bucket.{full_bucket, credit_at}
use Rattle.tenant_core.specs.Bucket.{stretch_of}
use Rattle.tenant_core.specs.Network.{Net, peer_numbered, with_peer, without_peer, with_limits, with_bucket}
use Rattle.tenant_core.specs.Network.{with_route, without_route, with_rate}
use Rattle.tenant_core.specs.State.{State, opened, clock_of, later, recorded}
use Rattle.tenant_core.specs.declared.journal.Change.{Change as Changed}
use Rattle.tenant_core.specs.declared.journal.Change.TheVariants.{PeerAdded, PeerRemoved, LimitsSet, BucketSet}
use Rattle.tenant_core.specs.declared.journal.Change.TheVariants.{RouteAdded, RouteRemoved, RateSet, Settled}
use Rattle.tenant_core.specs.declared.journal.Entry.{Entry}
use Rattle.tenant_core.specs.declared.journal.Entry.TheVariants.{Change}
use Rattle.tenant_core.specs.declared.journal.Record.{Record}
use Rattle.tenant_core.specs.declared.peer.Level.{Level}
use Rattle.tenant_core.specs.declared.peer.Peer.{Peer}

-- the credit of the bucket of a peer, if it is there, at that clock
abbrev pub credit_of : State → Option Peer → ℕ → ℕ
credit_of s None clock = 0
credit_of s (Some p) clock = credit_at (stretch_of s p) clock

-- the credit that a change leaves in a bucket at that clock. A peer that is added has a full one. One that is changed
-- keeps what it had, as far as there is room for it
abbrev pub credit_left : State → Net → ℕ → Changed → ℕ
credit_left s net clock (PeerAdded t) = full_bucket t.bucket.burst
credit_left s net clock (BucketSet n bucket) =
    min (credit_of s (peer_numbered n net.peers) clock) (full_bucket bucket.burst)
credit_left s net clock _ = 0

-- the level of that bucket, after the entry of the change
abbrev pub level_left : State → Net → ℕ → Changed → Level
level_left s net clock c =
    record { credit = credit_left s net clock c; clock = clock; entries = length s.records + 1 }

-- a network after a change; the bucket that the change fills or changes has that level
abbrev pub changed : Net → Changed → Level → Net
changed net (PeerAdded t) level = with_peer net t (pos 0) level
changed net (PeerRemoved n) level = without_peer net n
changed net (LimitsSet n limits) level = with_limits net n limits
changed net (BucketSet n bucket) level = with_bucket net n bucket level
changed net (RouteAdded prefix hop) level = with_route net prefix hop
changed net (RouteRemoved prefix) level = without_route net prefix
changed net (RateSet r) level = with_rate net r
changed net (Settled n side amount) level = net

-- what an entry makes of the network of a state, at the clock after the entry
abbrev pub net_after : State → Net → ℕ → Entry → Net
net_after s net clock (Change c) = changed net c.change (level_left s net clock c.change)
net_after s net clock _ = net

-- a state so far, and its network
pub record Told : Type 0 where
  pub state : State
  pub net : Net

-- one record more
abbrev pub told_after : Told → Record → Told
told_after t r =
    record {
      state = recorded t.state (Some r);
      net = net_after t.state t.net (later (clock_of t.state) r) r.entry;
    }

-- whom the tenant deals with, and how
unfoldable pub network_of : State → Net
network_of s = (fold told_after (record { state = opened s.opening; net = s.opening.network }) s.records).net
