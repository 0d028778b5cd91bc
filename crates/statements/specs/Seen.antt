-- The peers that were there during some periods.
use Rattle.std.specs.Prelude.{ℕ, ◌≤◌, ◌^◌, pos, List, [], ◌∷◌, ◌++◌, fold, map, take}
use Rattle.statements.specs.declared.seen.PeerSeen.{PeerSeen}
use Rattle.tenant_core.specs.Peers.{next_by}
use Rattle.tenant_core.specs.declared.journal.Change.{Change as Changed}
use Rattle.tenant_core.specs.declared.journal.Change.TheVariants.{PeerAdded}
use Rattle.tenant_core.specs.declared.journal.Entry.{Entry}
use Rattle.tenant_core.specs.declared.journal.Entry.TheVariants.{Change}
use Rattle.tenant_core.specs.declared.journal.Record.{Record}
use Rattle.tenant_core.specs.declared.peer.Peer.{Peer}
use Rattle.tenant_core.specs.declared.period.PeriodParts.{PeriodParts}

-- a peer that was there as the first period began, and what it owed
abbrev pub seen_at_first : Peer → PeerSeen
seen_at_first p = record { number = p.number; name = p.terms.name; began = p.balance }

-- the peer that a change adds, which gets that number and owes nothing
abbrev pub seen_in : ℕ → Changed → List PeerSeen
seen_in next (PeerAdded t) = (record { number = next; name = t.name; began = pos 0 }) ∷ []
seen_in next _ = []

-- the peer that an entry adds
abbrev pub seen_added : ℕ → Entry → List PeerSeen
seen_added next (Change c) = seen_in next c.change
seen_added next _ = []

-- the peers that records add, of which the first gets that number
abbrev pub seen_among : ℕ → List Record → List PeerSeen
seen_among next [] = []
seen_among next (r ∷ rs) = seen_added next r.entry ++ seen_among (next_by next r.entry) rs

-- the number of the next peer after records
abbrev pub next_after : ℕ → List Record → ℕ
next_after next rs = fold (λ n r. next_by n r.entry) next rs

-- the records add a peer for whose successor there is no number
abbrev pub IsOutOfNumbers : ℕ → List Record → Type 0
IsOutOfNumbers next rs = (k : ℕ) × (2 ^ 16 ≤ next_after next (take k rs))

-- the peers that a period added
abbrev pub seen_during : PeriodParts → List PeerSeen
seen_during p = seen_among p.opening.network.next_peer p.records

-- the peers that were there as the first of the periods began
abbrev pub seen_before : List PeriodParts → List PeerSeen
seen_before [] = []
seen_before (p ∷ ps) = map seen_at_first p.opening.network.peers
