-- What the metrics of a tenant say of its running period, by peer, in the text format of Prometheus (version 0.0.4).
use Rattle.std.specs.Prelude.{ℕ, zero, suc, ◌≡◌, ◌≤◌, ◌==◌, if◌then◌else◌, List, [], ◌++◌, codes, Option, Some, None}
use Rattle.std.specs.List.{flat_map}
use Rattle.tenant_core.specs.Network.{peer_numbered}
use Rattle.tenant_core.specs.declared.peer.Peer.{Peer}
use Rattle.tenant_core.specs.Present.{network_of}
use Rattle.tenant_core.specs.State.{State}
use Rattle.tenant_core.specs.declared.opening.Opening.{Opening}
use Rattle.books_shared.specs.PeerOutcomes.{peer_count}
use Rattle.books_shared.specs.Traced.{IsLedTo}
use Rattle.books_shared.specs.declared.outcomes.PacketOutcome.{PacketOutcome}
use Rattle.one_list.specs.declared.run.Run.{Ghosts}
use Rattle.one_list.specs.declared.step.Done.{Done}
use Rattle.service.specs.Journal.{IsKeptOf}
use Rattle.service.specs.Metrics.{all_outcomes, number_text, outcome_word}
use Rattle.service.specs.declared.office.Office.{Office}

-- the lines before the numbers
abbrev pub peers_head : List ℕ
peers_head =
    codes "# HELP ilpd_peer_packets Packets of the running period, by what became of them and the peer that they count for.\n# TYPE ilpd_peer_packets gauge\n"

-- whose number it is
unfoldable pub peer_label : (tenant peer : List ℕ) → List ℕ
peer_label tenant peer = codes "ilpd_peer_packets{tenant=\"" ++ tenant ++ codes "\",peer=\"" ++ peer ++ codes "\""

-- the line that says how many packets had an outcome and count for a peer
unfoldable pub count_line : (tenant peer : List ℕ) → PacketOutcome → ℕ → List ℕ
count_line tenant peer outcome number =
    peer_label tenant peer ++ codes ",outcome=\"" ++ outcome_word outcome ++ codes "\"}" ++ number_text number

-- no line for none
abbrev pub peer_line : (tenant peer : List ℕ) → PacketOutcome → ℕ → List ℕ
peer_line tenant peer outcome number = if number == 0 then [] else count_line tenant peer outcome number

-- the lines of a peer, by so many packets of each outcome
abbrev pub counts_text : (tenant peer : List ℕ) → (PacketOutcome → ℕ) → List ℕ
counts_text tenant peer count = flat_map (λ o. peer_line tenant peer o (count o)) all_outcomes

-- if it is there
abbrev pub lines_by : (tenant : List ℕ) → Option Peer → (PacketOutcome → ℕ) → List ℕ
lines_by tenant None count = []
lines_by tenant (Some p) count = counts_text tenant p.terms.name count

-- the lines of the peer of a number
abbrev pub peer_lines : (tenant : List ℕ) → State → ℕ → List ℕ
peer_lines tenant s n = lines_by tenant (peer_numbered n (network_of s).peers) (peer_count s n)

-- the lines of the peers below a number, in the order of their numbers
abbrev pub peers_upto : (tenant : List ℕ) → State → ℕ → List ℕ
peers_upto tenant s zero = []
peers_upto tenant s (suc n) = peers_upto tenant s n ++ peer_lines tenant s n

-- the lines of a book's peers for whom packets count: no packet counts for a number that is not below the bound
abbrev pub IsPeersOf : (tenant : List ℕ) → State → List ℕ → Type 0
IsPeersOf tenant s text =
    (bound : ℕ) × ((n : ℕ) (o : PacketOutcome) → bound ≤ n → peer_count s n o ≡ 0) × (text ≡ peers_head ++ peers_upto tenant s bound)

-- they were added
abbrev pub HasPeers : (tenant : List ℕ) → State → (old new : List ℕ) → Type 0
HasPeers tenant s old new = (more : List ℕ) × IsPeersOf tenant s more × (new ≡ old ++ more)

-- the lines of the tenant's book as it was at some moment, all records of which are kept
pub record IsPeersText {J : Type 0} {r : Ghosts J} (openings : List Opening) (office : Office J r) (tenant : ℕ) (name : List ℕ) (text : List ℕ) : Type 0 where
  pub book : State
  pub steps : List Done
  pub own : book.opening.tenant ≡ tenant
  pub led : IsLedTo openings book steps
  pub kept : IsKeptOf openings office book
  pub told : IsPeersOf name book text
