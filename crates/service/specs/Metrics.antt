-- What the metrics of a service say, in the text format of Prometheus (version 0.0.4).
use Rattle.std.specs.Prelude.{ℕ, ◌≡◌, Bool, true, false, List, [], ◌∷◌, ◌++◌, codes, length, Option, None, Some}
use Rattle.std.specs.Fmt.{decimal}
use Rattle.std.specs.List.{flat_map, slice_get}
use Rattle.tenant_core.specs.Codes.{code_of}
use Rattle.tenant_core.specs.Holds.{open_holds}
use Rattle.tenant_core.specs.State.{State}
use Rattle.tenant_core.specs.declared.opening.Opening.{Opening}
use Rattle.tenant_core.specs.declared.verdict.RejectCode.TheVariants.{BadRequest, Unreachable, InvalidAmount, WrongCondition, AmountTooLarge}
use Rattle.tenant_core.specs.declared.verdict.RejectCode.TheVariants.{PeerUnreachable, Busy, InsufficientLiquidity, RateLimited}
use Rattle.tenant_core.specs.declared.verdict.RejectCode.TheVariants.{TimedOut, InsufficientSource, InsufficientTimeout}
use Rattle.books_shared.specs.Kept.{LockedBook}
use Rattle.books_shared.specs.Outcomes.{AreCounted, count_at}
use Rattle.books_shared.specs.Traced.{IsLedTo}
use Rattle.books_shared.specs.declared.outcomes.PacketOutcome.{PacketOutcome}
use Rattle.books_shared.specs.declared.outcomes.PacketOutcome.TheVariants.{Fulfilled, Rejected, Configured, Refused}
use Rattle.meters.specs.declared.kind.Kind.{Kind}
use Rattle.meters.specs.declared.kind.Kind.TheVariants as kind
use Rattle.workers.specs.declared.places.PlaceUse.{PlaceUse}
use Rattle.service.specs.declared.breakers.BreakerUse.{BreakerUse}
use Rattle.service.specs.declared.host.metrics.BookFigures.{BookFigures}
use Rattle.service.specs.declared.host.metrics.Family.{Family}
use Rattle.service.specs.declared.host.metrics.Family.TheVariants.{Accepts, Open, Waiting, LogLeft, LogWrite, LogSynced, Answers, Packets, Unanswered, PeersResting, PacketsSkipped, LinkFaults, RefusedTokens, PlacesShare, PlacesUsed, PlacesAwaited, Period, Entries, JournalPlaces, OpenHolds, StatementsWaiting}
use Rattle.service.specs.declared.host.metrics.LogCounts.{LogCounts}
use Rattle.service.specs.declared.host.metrics.PacketFigures.{PacketFigures}
use Rattle.service.specs.declared.host.metrics.ServiceCounts.{ServiceCounts}
use Rattle.service.specs.declared.host.metrics.TenantCounts.{TenantCounts}

-- ---- families

-- the name of a family of numbers
abbrev pub family_name : Family → List ℕ
family_name Accepts = codes "ilpd_accepts_connections"
family_name Open = codes "ilpd_connections_open"
family_name Waiting = codes "ilpd_threads_waiting"
family_name LogLeft = codes "ilpd_log_left_bytes"
family_name LogWrite = codes "ilpd_log_write_milliseconds"
family_name LogSynced = codes "ilpd_log_synced_milliseconds"
family_name Answers = codes "ilpd_answers_total"
family_name Packets = codes "ilpd_packets_total"
family_name Unanswered = codes "ilpd_unanswered_total"
family_name PeersResting = codes "ilpd_peers_resting"
family_name PacketsSkipped = codes "ilpd_packets_skipped_total"
family_name LinkFaults = codes "ilpd_link_faults_total"
family_name RefusedTokens = codes "ilpd_operator_tokens_refused_total"
family_name PlacesShare = codes "ilpd_places_share"
family_name PlacesUsed = codes "ilpd_places_used"
family_name PlacesAwaited = codes "ilpd_places_awaited"
family_name Period = codes "ilpd_period"
family_name Entries = codes "ilpd_journal_entries"
family_name JournalPlaces = codes "ilpd_journal_places"
family_name OpenHolds = codes "ilpd_holds_open"
family_name StatementsWaiting = codes "ilpd_statements_waiting"

-- what it is, in words
abbrev pub help_of : Family → List ℕ
help_of Accepts = codes "Whether connections are accepted: 1 or 0."
help_of Open = codes "Connections that are open."
help_of Waiting = codes "Threads that wait for a connection."
help_of LogLeft = codes "Bytes of the journal's log on disk that are left."
help_of LogWrite = codes "For how many milliseconds the write of the log has taken that is under way, or 0."
help_of LogSynced = codes "How many milliseconds ago the log was synced last."
help_of Answers = codes "Packets and commands that were answered, by the status of the answer."
help_of Packets = codes "Packets that the tenant decided, by what became of them."
help_of Unanswered = codes "Packets that went on and got no usable answer, by the cause."
help_of PeersResting = codes "Peers that rest: five packets in a row got no answer."
help_of PacketsSkipped = codes "Packets that were not sent on, since the peer rested."
help_of LinkFaults = codes "Packets that no peer answered with status 200, or for which no place was free in time. A bad answer is not counted."
help_of RefusedTokens = codes "Commands and questions under a token that is not the operator's."
help_of PlacesShare = codes "Places of which the tenant is sure."
help_of PlacesUsed = codes "Places that the tenant uses: its packets that are with a next peer."
help_of PlacesAwaited = codes "Packets of the tenant that wait for a place."
help_of Period = codes "The number of the running period."
help_of Entries = codes "Entries of the running period."
help_of JournalPlaces = codes "Entries that a period has room for, beside its roll."
help_of OpenHolds = codes "Packets that went on and await their answers."
help_of StatementsWaiting = codes "Closed periods whose statements are still to be written."

-- whether its numbers only grow
abbrev pub type_of : Family → List ℕ
type_of Answers = codes "counter"
type_of Packets = codes "counter"
type_of Unanswered = codes "counter"
type_of PacketsSkipped = codes "counter"
type_of LinkFaults = codes "counter"
type_of RefusedTokens = codes "counter"
type_of _ = codes "gauge"

-- what its lines tell apart beside the tenant
abbrev pub detail_name : Family → List ℕ
detail_name Answers = codes "status"
detail_name Packets = codes "outcome"
detail_name Unanswered = codes "cause"
detail_name _ = []

-- the lines before the numbers of a family
unfoldable pub family_head : Family → List ℕ
family_head family =
    codes "# HELP " ++ family_name family ++ codes " " ++ help_of family
    ++ codes "\n# TYPE " ++ family_name family ++ codes " " ++ type_of family ++ codes "\n"

-- ---- lines

-- what ends a line: its number
abbrev pub number_text : ℕ → List ℕ
number_text number = codes " " ++ decimal number ++ codes "\n"

-- a family of one number
unfoldable pub single_text : Family → ℕ → List ℕ
single_text family number = family_head family ++ family_name family ++ number_text number

-- whose number it is
unfoldable pub label_of : Family → List ℕ → List ℕ
label_of family tenant = family_name family ++ codes "{tenant=\"" ++ tenant ++ codes "\""

-- the line of a tenant's number
unfoldable pub family_line : Family → List ℕ → ℕ → List ℕ
family_line family tenant number = label_of family tenant ++ codes "}" ++ number_text number

-- the line of a tenant's number that has a detail, as the status of the answer
unfoldable pub detail_line : Family → (tenant detail : List ℕ) → ℕ → List ℕ
detail_line family tenant detail number =
    label_of family tenant ++ codes "," ++ detail_name family ++ codes "=\"" ++ detail ++ codes "\"}" ++ number_text number

-- the word for an outcome: its code, if the packet was refused (RFC 0027, "Error Codes")
abbrev pub outcome_word : PacketOutcome → List ℕ
outcome_word Fulfilled = codes "fulfilled"
outcome_word Rejected = codes "rejected"
outcome_word Configured = codes "configured"
outcome_word (Refused code) = code_of code

-- ---- numbers

-- the number of a tenant that a family has
abbrev pub figure_of : Family → TenantCounts → ℕ
figure_of PeersResting counts = counts.breakers.resting
figure_of PacketsSkipped counts = counts.breakers.skipped
figure_of LinkFaults counts = counts.link_faults
figure_of RefusedTokens counts = counts.refused_tokens
figure_of PlacesShare counts = counts.places.share
figure_of PlacesUsed counts = counts.places.used
figure_of PlacesAwaited counts = counts.places.waiting
figure_of Period counts = counts.book.period
figure_of Entries counts = counts.book.entries
figure_of JournalPlaces counts = counts.book.journal_places
figure_of OpenHolds counts = counts.book.open_holds
figure_of StatementsWaiting counts = counts.statements
figure_of _ counts = 0

-- the lines of a tenant's answers: 200, 4xx and 503
unfoldable pub answers_of : TenantCounts → List ℕ
answers_of counts =
    detail_line Answers counts.name.now (codes "200") counts.answered ++ detail_line Answers counts.name.now (codes "4xx") counts.refused
    ++ detail_line Answers counts.name.now (codes "503") counts.unavailable

-- the lines of a tenant's packets that got no usable answer: no place was free in time, nothing came back from the peer, or bytes
-- that are neither a Fulfill nor a Reject
unfoldable pub unanswered_of : TenantCounts → List ℕ
unanswered_of counts =
    detail_line Unanswered counts.name.now (codes "no_place") counts.places.missed
    ++ detail_line Unanswered counts.name.now (codes "no_answer") counts.places.unanswered
    ++ detail_line Unanswered counts.name.now (codes "bad_answer") counts.packets.bad_answers

-- the lines of a tenant's packets that had these outcomes
unfoldable pub outcomes_text : TenantCounts → List PacketOutcome → List ℕ
outcomes_text counts outcomes =
    flat_map (λ o. detail_line Packets counts.name.now (outcome_word o) (count_at o counts.packets.outcomes)) outcomes

-- all outcomes that a journal has
abbrev pub all_outcomes : List PacketOutcome
all_outcomes =
    Fulfilled ∷ Rejected ∷ Configured ∷ Refused BadRequest ∷ Refused Unreachable ∷ Refused InvalidAmount ∷ Refused WrongCondition
    ∷ Refused AmountTooLarge ∷ Refused PeerUnreachable ∷ Refused Busy ∷ Refused InsufficientLiquidity ∷ Refused RateLimited
    ∷ Refused TimedOut ∷ Refused InsufficientSource ∷ Refused InsufficientTimeout ∷ []

-- what became of a tenant's packets, and of how many it had no room in its journal
unfoldable pub packets_of : TenantCounts → List ℕ
packets_of counts =
    outcomes_text counts all_outcomes ++ detail_line Packets counts.name.now (codes "journal_full") counts.packets.full_journals

-- the lines of a tenant in a family of several
abbrev pub details_of : Family → TenantCounts → List ℕ
details_of Answers counts = answers_of counts
details_of Packets counts = packets_of counts
details_of Unanswered counts = unanswered_of counts
details_of _ counts = []

-- a family of several numbers of each tenant
unfoldable pub details_text : Family → List TenantCounts → List ℕ
details_text family all = family_head family ++ flat_map (details_of family) all

-- a family of numbers of the tenants
unfoldable pub each_text : Family → List TenantCounts → List ℕ
each_text family all = family_head family ++ flat_map (λ counts. family_line family counts.name.now (figure_of family counts)) all

-- 1 or 0
abbrev pub bit : Bool → ℕ
bit true = 1
bit false = 0

-- the metrics of the whole service
unfoldable pub service_text : ServiceCounts → List ℕ
service_text service =
    single_text Accepts (bit service.accepts) ++ single_text Open service.open ++ single_text Waiting service.waiting

-- the metrics of the journal on disk, if one is kept
abbrev pub log_text : Option LogCounts → List ℕ
log_text None = []
log_text (Some log) = single_text LogLeft log.left ++ single_text LogWrite log.write_time ++ single_text LogSynced log.since_sync

-- the metrics of the tenants, by family
unfoldable pub tenants_text : List TenantCounts → List ℕ
tenants_text all =
    details_text Answers all ++ details_text Packets all ++ details_text Unanswered all ++ each_text PeersResting all ++ each_text PacketsSkipped all ++ each_text LinkFaults all ++ each_text RefusedTokens all
    ++ each_text PlacesShare all ++ each_text PlacesUsed all ++ each_text PlacesAwaited all ++ each_text Period all ++ each_text Entries all ++ each_text JournalPlaces all ++ each_text OpenHolds all

-- the metrics of the statements of closed periods, if some are kept
abbrev pub statements_text : Bool → List TenantCounts → List ℕ
statements_text false all = []
statements_text true all = each_text StatementsWaiting all

-- the metrics
abbrev pub metrics_text : ServiceCounts → List TenantCounts → List ℕ
metrics_text service all = service_text service ++ log_text service.log ++ tenants_text all ++ statements_text service.states all

-- ---- what was read

-- the figures of a book
abbrev pub figures_of : State → BookFigures
figures_of book = record {
  period = book.opening.period;
  entries = length book.records;
  journal_places = book.opening.journal;
  open_holds = open_holds book;
}

-- these are the figures of a book of the tenant
abbrev pub IsBookOf : ℕ → BookFigures → Type 0
IsBookOf tenant figures = (book : State) × (book.opening.tenant ≡ tenant) × (figures ≡ figures_of book)

-- These figures are of a book of the tenant. As many packets had each outcome as records of the steps that led to it from the
-- tenant's first opening say. So many packets found its journal full, and so many answers of peers were bad.
pub record ArePacketsOf (openings : List Opening) (tenant : ℕ) (figures : PacketFigures) : Type 0 where
  pub locked : LockedBook
  pub own : locked.state.opening.tenant ≡ tenant
  pub led : IsLedTo openings locked.state locked.steps
  pub counted : AreCounted figures.outcomes locked.steps
  pub full : figures.full_journals ≡ locked.full
  pub bad : figures.bad_answers ≡ locked.bad

-- these counts of a tenant are what was read: so often each kind, so many refused tokens, these places and breakers, what became
-- of these packets, this book, and so many statements that wait
pub record AreRead (Answered : Kind → ℕ → Type 0) (Tokens : ℕ → Type 0) (Places : PlaceUse → Type 0) (Breakers : BreakerUse → Type 0) (Packets : PacketFigures → Type 0)
    (Book : BookFigures → Type 0) (Statements : ℕ → Type 0)
    (counts : TenantCounts) : Type 0 where
  pub answered : Answered kind.Answered counts.answered
  pub refused : Answered kind.ClientError counts.refused
  pub unavailable : Answered kind.Unavailable counts.unavailable
  pub link_faults : Answered kind.LinkFault counts.link_faults
  pub refused_tokens : Tokens counts.refused_tokens
  pub places : Places counts.places
  pub breakers : Breakers counts.breakers
  pub packets : Packets counts.packets
  pub book : Book counts.book
  pub statements : Statements counts.statements

-- the text is the metrics of the tenants of these names, each of its own book and packets
abbrev pub IsMetricsOf : List Opening → List (List ℕ) → List ℕ → Type 0
IsMetricsOf openings names text =
    (service : ServiceCounts) × (all : List TenantCounts) × (length all ≡ length names)
    × ((tenant : ℕ) (counts : TenantCounts) → slice_get all tenant ≡ Some counts
    → (slice_get names tenant ≡ Some counts.name.now) × IsBookOf tenant counts.book × ArePacketsOf openings tenant counts.packets)
    × (text ≡ metrics_text service all)
