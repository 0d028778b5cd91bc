-- What became of the packets of a period, by the peer that each counts for.
use Rattle.std.specs.Prelude.{ℕ, ◌≡◌, ◌==◌, ◌&&◌, ◌+◌, if◌then◌else◌, Bool, false, List, Option, Some, None, count_by, find, min, option_and_then, option_map}
use Rattle.std.specs.List.{slice_get}
use Rattle.tenant_core.specs.Holds.{AreNumbered, holds_of}
use Rattle.tenant_core.specs.State.{State}
use Rattle.tenant_core.specs.declared.hold.Hold.{Hold}
use Rattle.tenant_core.specs.declared.journal.Entry.{Entry}
use Rattle.tenant_core.specs.declared.journal.Entry.TheVariants.{Decide, Answer, Tick, Change, Roll}
use Rattle.tenant_core.specs.declared.journal.Record.{Record}
use Rattle.books_shared.specs.Outcomes.{count_at, is_of, most_counted, outcome_in}
use Rattle.books_shared.specs.declared.outcomes.PacketCounts.{PacketCounts}
use Rattle.books_shared.specs.declared.outcomes.PacketOutcome.{PacketOutcome}
use Rattle.books_shared.specs.declared.outcomes.PacketOutcome.TheVariants.{Fulfilled, Rejected, Configured, Refused}
use Rattle.books_shared.specs.declared.peer_outcomes.PeerOutcome.{PeerOutcome}

-- the packet that went on under that number
abbrev pub hold_numbered : ℕ → List Hold → Option Hold
hold_numbered n holds = find (λ h. h.number == n) holds

-- the packets are numbered one after the other
abbrev pub AreConsecutive : List Hold → Type 0
AreConsecutive holds = (first : ℕ) × AreNumbered first holds

-- whom an answer to a packet counts for: its sender if it was fulfilled, otherwise the peer that it went to
abbrev pub answerer : PacketOutcome → Hold → ℕ
answerer Fulfilled h = h.from
answerer Rejected h = h.to
answerer Configured h = h.to
answerer (Refused code) h = h.to

-- the peer that an outcome counts for: the sender, unless it came of an answer
abbrev pub counted_peer : List Hold → PacketOutcome → Entry → Option ℕ
counted_peer holds o (Decide d) = Some d.peer
counted_peer holds o (Answer a) = option_map (answerer o) (hold_numbered a.hold holds)
counted_peer holds o (Tick t) = None
counted_peer holds o (Change c) = None
counted_peer holds o (Roll r) = None

-- what became of a packet by that record, and the peer that it counts for
abbrev pub peer_outcome_in : List Hold → Record → Option PeerOutcome
peer_outcome_in holds r =
    option_and_then (λ o. option_map (λ p. record { peer = p; outcome = o }) (counted_peer holds o r.entry)) (outcome_in r)

-- it is that outcome, and counts for that peer
abbrev pub is_peers : ℕ → PacketOutcome → Option PeerOutcome → Bool
is_peers peer o None = false
is_peers peer o (Some said) = (said.peer == peer) && is_of o (Some said.outcome)

-- how many packets had that outcome and count for that peer, by these records
abbrev pub peer_count_in : List Hold → ℕ → PacketOutcome → List Record → ℕ
peer_count_in holds peer o records = min most_counted (count_by (λ r. is_peers peer o (peer_outcome_in holds r)) records)

-- so many packets of the running period
abbrev pub peer_count : State → ℕ → PacketOutcome → ℕ
peer_count s peer o = peer_count_in (holds_of s) peer o s.records

-- ---- rows of counts, by the numbers of peers

-- a tenant's peers have numbers below this
abbrev pub peer_numbers : ℕ
peer_numbers = 65536

-- the count of an outcome in a row, 0 if there is no row
abbrev pub row_count : PacketOutcome → Option PacketCounts → ℕ
row_count o None = 0
row_count o (Some counts) = count_at o counts

-- what rows say of a peer
abbrev pub count_of_peer : List PacketCounts → ℕ → PacketOutcome → ℕ
count_of_peer rows peer o = row_count o (slice_get rows peer)

-- the rows are the counts of each peer by these records
abbrev pub AreCountedByPeer : List PacketCounts → List Hold → List Record → Type 0
AreCountedByPeer rows holds records = (peer : ℕ) (o : PacketOutcome) → count_of_peer rows peer o ≡ peer_count_in holds peer o records

-- the rows say the same of each peer
abbrev pub SayTheSame : List PacketCounts → List PacketCounts → Type 0
SayTheSame rows others = (peer : ℕ) (o : PacketOutcome) → count_of_peer rows peer o ≡ count_of_peer others peer o

-- the rows with one more of that outcome of that peer, if there is one
abbrev pub AreRaised : Option PeerOutcome → (old new : List PacketCounts) → Type 0
AreRaised said old new = (peer : ℕ) (o : PacketOutcome)
    → count_of_peer new peer o ≡ (if is_peers peer o said then min most_counted (count_of_peer old peer o + 1) else count_of_peer old peer o)
