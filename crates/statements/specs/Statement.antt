-- The text of a closed period: its opening, a line for each record, and the opening of the next period. It has no
-- secret: the tokens of peers and their targets are left out, so one text can state several periods.
use Rattle.std.specs.Prelude.{ℕ, ◌≡◌, List, [], ◌∷◌, ◌++◌, map, codes, Option, Some, None}
use Rattle.std.specs.FinMap.{from_entries}
use Rattle.std.specs.Fmt.{decimal, signed_decimal}
use Rattle.std.specs.List.{flat_map}
use Rattle.hex.specs.Hex.{encode_lower}
use Rattle.ildcp_core.specs.declared.child.Role.{Role}
use Rattle.ildcp_core.specs.declared.child.Role.TheVariants.{Child, Peer as Equal}
use Rattle.route_table.specs.Listing.{entry_of}
use Rattle.route_table.specs.Routes.{RouteMap}
use Rattle.route_table.specs.declared.route.Route.{Route}
use Rattle.tenant_core.specs.Codes.{code_of}
use Rattle.tenant_core.specs.State.{entered_at}
use Rattle.tenant_core.specs.declared.command.Side.TheVariants.{In, Out}
use Rattle.tenant_core.specs.declared.journal.AnswerKey.{AnswerKey}
use Rattle.tenant_core.specs.declared.journal.AnswerKey.TheVariants.{Fulfilled, Rejected, Fault}
use Rattle.tenant_core.specs.declared.journal.Change.{Change as Changed}
use Rattle.tenant_core.specs.declared.journal.Change.TheVariants.{PeerAdded, PeerRemoved, LimitsSet, BucketSet}
use Rattle.tenant_core.specs.declared.journal.Change.TheVariants.{RouteAdded, RouteRemoved, RateSet, Settled}
use Rattle.tenant_core.specs.declared.journal.DecideEntry.{DecideEntry}
use Rattle.tenant_core.specs.declared.journal.Entry.{Entry}
use Rattle.tenant_core.specs.declared.journal.Entry.TheVariants.{Decide, Answer, Tick, Change, Roll}
use Rattle.tenant_core.specs.declared.journal.Outcome.{Outcome}
use Rattle.tenant_core.specs.declared.journal.Outcome.TheVariants.{Packet, Ticked, Done, Rolled}
use Rattle.tenant_core.specs.declared.journal.Record.{Record}
use Rattle.tenant_core.specs.declared.opening.Opening.{Opening}
use Rattle.tenant_core.specs.declared.peer.Peer.{Peer}
use Rattle.tenant_core.specs.declared.period.PeriodParts.{PeriodParts}
use Rattle.tenant_core.specs.declared.terms.BucketTerms.{BucketTerms}
use Rattle.tenant_core.specs.declared.terms.PeerLimits.{PeerLimits}
use Rattle.tenant_core.specs.declared.terms.PeerTerms.{PeerTerms}
use Rattle.tenant_core.specs.declared.terms.RateTerms.{RateTerms}
use Rattle.tenant_core.specs.declared.verdict.Verdict.{Verdict}
use Rattle.tenant_core.specs.declared.verdict.Verdict.TheVariants.{Unknown, NoRoom, Refuse, Fulfil, Forward, Relay}

-- a word after a space
abbrev pub word : List ℕ → List ℕ
word w = 32 ∷ w

-- words, each after a space
abbrev pub spaced : List (List ℕ) → List ℕ
spaced words = flat_map word words

-- a line: its first word, and the others
abbrev pub line : List ℕ → List (List ℕ) → List ℕ
line first others = first ++ spaced others ++ 10 ∷ []

-- a number in decimal digits, after a space
abbrev pub number : ℕ → List ℕ
number n = word (decimal n)

-- ---- what a period begins with

-- the role of a peer: a child, or any other peer (RFC 0031)
abbrev pub role_word : Role → List ℕ
role_word Child = codes "child"
role_word Equal = codes "peer"

-- the empty prefix is a star
abbrev pub prefix_word : List ℕ → List ℕ
prefix_word [] = codes "*"
prefix_word (b ∷ bytes) = b ∷ bytes

-- the cap, the ceiling and the credit
unfoldable pub limits_words : PeerLimits → List (List ℕ)
limits_words l = decimal l.cap ∷ decimal l.ceiling ∷ decimal l.credit ∷ []

-- how many packets at once, and how many a second
abbrev pub bucket_words : BucketTerms → List (List ℕ)
bucket_words b = decimal b.burst ∷ decimal b.per_second ∷ []

-- what is agreed with a peer, as in the command that adds one, without its token and its target
unfoldable pub terms_words : PeerTerms → List (List ℕ)
terms_words t =
    t.name ∷ role_word t.role ∷ t.asset ∷ decimal t.scale ∷ [] ++ limits_words t.limits ++ bucket_words t.bucket

-- a route: its prefix, the number of its peer, and the fee
abbrev pub hop_words : List ℕ → ℕ → ℕ → List (List ℕ)
hop_words prefix peer fee = prefix_word prefix ∷ decimal peer ∷ decimal fee ∷ []

-- a rate: the numbers of its two peers, and the fraction
abbrev pub rate_words : RateTerms → List (List ℕ)
rate_words r = decimal r.from ∷ decimal r.to ∷ decimal r.rate.numerator ∷ decimal r.rate.denominator ∷ []

-- the tenant's place, its own terms
unfoldable pub tenant_words : Opening → List (List ℕ)
tenant_words o =
    decimal o.tenant ∷ o.name ∷ o.address ∷ decimal o.journal ∷ decimal o.margin ∷ decimal o.hold ∷ []

unfoldable pub tenant_line : Opening → List ℕ
tenant_line o = line (codes "tenant") (tenant_words o)

-- the number of the period, its clock, the numbers of the next hold and of the next peer
unfoldable pub period_words : Opening → List (List ℕ)
period_words o = decimal o.period ∷ decimal o.clock ∷ decimal o.next_hold ∷ decimal o.network.next_peer ∷ []

unfoldable pub period_line : Opening → List ℕ
period_line o = line (codes "period") (period_words o)

-- a peer under its number, what it owes, and what its bucket holds
unfoldable pub peer_words : Peer → List (List ℕ)
peer_words p =
    decimal p.number ∷ [] ++ terms_words p.terms ++ signed_decimal p.balance ∷ decimal p.bucket.credit ∷ []

unfoldable pub peer_line : Peer → List ℕ
peer_line p = line (codes "peer") (peer_words p)

-- a route on a line of its own
unfoldable pub route_line : Route → List ℕ
route_line r = line (codes "route") (hop_words r.prefix r.hop.peer r.hop.fee)

-- a rate on a line of its own
unfoldable pub rate_line : RateTerms → List ℕ
rate_line r = line (codes "rate") (rate_words r)

-- an opening, whose routes are these
unfoldable pub opening_text : List Route → Opening → List ℕ
opening_text routes o =
    tenant_line o ++ period_line o ++ flat_map peer_line o.network.peers ++ flat_map route_line routes
    ++ flat_map rate_line o.network.rates

-- ---- a record

-- the verdict on a packet, or on the answer to it
unfoldable pub verdict_words : Verdict → List (List ℕ)
verdict_words Unknown = codes "unknown" ∷ []
verdict_words NoRoom = codes "full" ∷ []
verdict_words (Refuse code None) = codes "refuse" ∷ code_of code ∷ []
verdict_words (Refuse code (Some amounts)) =
    codes "refuse" ∷ code_of code ∷ decimal amounts.0 ∷ decimal amounts.1 ∷ []
verdict_words Fulfil = codes "fulfil" ∷ []
verdict_words (Forward hold peer amount expiry) =
    codes "forward" ∷ decimal hold ∷ decimal peer ∷ decimal amount ∷ decimal expiry ∷ []
verdict_words Relay = codes "relay" ∷ []

-- what an entry led to
abbrev pub outcome_words : Outcome → List (List ℕ)
outcome_words (Packet v) = codes "=" ∷ verdict_words v
outcome_words (Ticked count) = codes "=" ∷ decimal count ∷ []
outcome_words Done = []
outcome_words Rolled = []

-- what came back for the hold of that number
abbrev pub answer_words : ℕ → AnswerKey → List (List ℕ)
answer_words hold (Fulfilled fulfillment) = codes "fulfill" ∷ decimal hold ∷ encode_lower fulfillment ∷ []
answer_words hold Rejected = codes "reject" ∷ decimal hold ∷ []
answer_words hold Fault = codes "fault" ∷ decimal hold ∷ []

-- the words of the command that makes a change
unfoldable pub change_verb : Changed → List (List ℕ)
change_verb (PeerAdded t) = codes "peer" ∷ codes "add" ∷ []
change_verb (PeerRemoved n) = codes "peer" ∷ codes "remove" ∷ []
change_verb (LimitsSet n limits) = codes "peer" ∷ codes "limits" ∷ []
change_verb (BucketSet n bucket) = codes "peer" ∷ codes "bucket" ∷ []
change_verb (RouteAdded prefix hop) = codes "route" ∷ codes "add" ∷ []
change_verb (RouteRemoved prefix) = codes "route" ∷ codes "remove" ∷ []
change_verb (RateSet r) = codes "rate" ∷ codes "set" ∷ []
change_verb (Settled n In amount) = codes "settle" ∷ codes "in" ∷ []
change_verb (Settled n Out amount) = codes "settle" ∷ codes "out" ∷ []

-- what it changes, peers by their numbers
abbrev pub change_parts : Changed → List (List ℕ)
change_parts (PeerAdded t) = terms_words t
change_parts (PeerRemoved n) = decimal n ∷ []
change_parts (LimitsSet n limits) = decimal n ∷ limits_words limits
change_parts (BucketSet n bucket) = decimal n ∷ bucket_words bucket
change_parts (RouteAdded prefix hop) = hop_words prefix hop.peer hop.fee
change_parts (RouteRemoved prefix) = prefix_word prefix ∷ []
change_parts (RateSet r) = rate_words r
change_parts (Settled n side amount) = decimal n ∷ decimal amount ∷ []

-- what an operator changed
abbrev pub change_words : Changed → List (List ℕ)
change_words c = change_verb c ++ change_parts c

-- a Prepare: who sent it, its amount, its expiry, its condition and its destination
unfoldable pub decide_words : DecideEntry → List (List ℕ)
decide_words d =
    codes "prepare" ∷ decimal d.peer ∷ decimal d.amount ∷ decimal d.expiry ∷ encode_lower d.condition ∷ d.destination
    ∷ []

-- what happened
abbrev pub entry_words : Entry → List (List ℕ)
entry_words (Decide d) = decide_words d
entry_words (Answer a) = answer_words a.hold a.key
entry_words (Tick t) = codes "tick" ∷ []
entry_words (Change c) = change_words c.change
entry_words (Roll r) = codes "roll" ∷ []

-- the moment, what happened, and what it led to
unfoldable pub record_line : Record → List ℕ
record_line r = line (decimal (entered_at r.entry)) (entry_words r.entry ++ outcome_words r.outcome)

-- ---- a statement

-- the first line says which form of statement it is
unfoldable pub version_line : List ℕ
version_line = codes "statement 1\n"

-- the text before the records: the version, and the period's opening
unfoldable pub head_text : List Route → Opening → List ℕ
head_text routes o = version_line ++ opening_text routes o

-- the text after them: the next period's opening
unfoldable pub ending_text : List Route → Opening → List ℕ
ending_text routes o = codes "ending\n" ++ opening_text routes o

-- the text of a closed period, whose routes and those of its ending are these
unfoldable pub statement_text : List Route → List Route → PeriodParts → List ℕ
statement_text routes next p = head_text routes p.opening ++ flat_map record_line p.records ++ ending_text next p.ending

-- the routes are those of the map, each once
abbrev pub AreRoutesOf : RouteMap → List Route → Type 0
AreRoutesOf map_of routes = from_entries (map entry_of routes) ≡ map_of

-- the text states the closed period, in any order of its routes
pub record IsStatement (text : List ℕ) (p : PeriodParts) : Type 0 where
  pub routes : List Route
  pub next : List Route
  pub listed : AreRoutesOf p.opening.network.routes routes
  pub listed_next : AreRoutesOf p.ending.network.routes next
  pub written : text ≡ statement_text routes next p

-- the text is all that comes before the records of a period with that opening, with its routes in any order
pub record IsHead (text : List ℕ) (o : Opening) : Type 0 where
  pub routes : List Route
  pub listed : AreRoutesOf o.network.routes routes
  pub written : text ≡ head_text routes o

-- the text is the one of that opening; empty if there is none
abbrev pub IsNextHead : Option Opening → List ℕ → Type 0
IsNextHead None text = text ≡ []
IsNextHead (Some o) text = IsHead text o
