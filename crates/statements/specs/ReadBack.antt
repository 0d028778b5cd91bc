-- What is written is read back, but for the tokens and the targets of peers, which no statement has.
use Rattle.std.specs.Prelude.{ℕ, ◌≡◌, ◌≤◌, ◌<◌, ◌^◌, nat_lt, Bool, true, List, [], ◌∷◌, ◌++◌, length, Option, Some, None, option_and_then}
use Rattle.std.specs.Fmt.{decimal}
use Rattle.std.specs.List.{list_all}
use Rattle.common_types.specs.Names.{is_name, is_asset_code}
use Rattle.common_types.specs.Numbers.{is_between}
use Rattle.common_types.specs.Words.{words_of}
use Rattle.hex.specs.Hex.{encode_lower}
use Rattle.ilp_addr.specs.Address.{IsAddress, IsPrefix}
use Rattle.money_core.specs.Account.{max_money}
use Rattle.money_core.specs.Fraction.{IsFraction}
use Rattle.ilp_addr.specs.OwnAddress.{is_own_address}
use Rattle.oer_core.specs.Length.{AreBytes}
use Rattle.route_table.specs.declared.hop.Hop.{Hop}
use Rattle.route_table.specs.declared.route.Route.{Route}
use Rattle.statements.specs.ReadOpening.{peer_read, route_read, start_read, tenant_read}
use Rattle.statements.specs.Reading.{bucket_read, entry_read, hash_read, limits_read, line_read, text_lines, max_number, nowhere}
use Rattle.statements.specs.Reading.{number_read, prefix_spelled, rate_read, read_part, terms_read, word_read}
use Rattle.statements.specs.Statement.{bucket_words, limits_words, prefix_word, rate_words, terms_words}
use Rattle.statements.specs.Statement.{peer_line, period_line, rate_line, record_line, route_line, tenant_line}
use Rattle.statements.specs.declared.opening.StatedPeer.{StatedPeer}
use Rattle.statements.specs.declared.opening.StatedStart.{StatedStart}
use Rattle.statements.specs.declared.opening.StatedTenant.{StatedTenant}
use Rattle.tenant_core.specs.State.{entered_at}
use Rattle.tenant_core.specs.Terms.{are_limits_within, is_balance_within, is_bucket_within}
use Rattle.tenant_core.specs.declared.journal.AnswerKey.{AnswerKey}
use Rattle.tenant_core.specs.declared.journal.AnswerKey.TheVariants.{Fulfilled, Rejected, Fault}
use Rattle.tenant_core.specs.declared.journal.Change.{Change as Changed}
use Rattle.tenant_core.specs.declared.journal.Change.TheVariants.{PeerAdded, PeerRemoved, LimitsSet, BucketSet}
use Rattle.tenant_core.specs.declared.journal.Change.TheVariants.{RouteAdded, RouteRemoved, RateSet, Settled}
use Rattle.tenant_core.specs.declared.journal.DecideEntry.{DecideEntry}
use Rattle.tenant_core.specs.declared.journal.Entry.{Entry}
use Rattle.tenant_core.specs.declared.journal.Entry.TheVariants.{Decide, Answer, Tick, Change, Roll}
use Rattle.tenant_core.specs.declared.journal.Outcome.{Outcome}
use Rattle.tenant_core.specs.declared.journal.Outcome.TheVariants.{Packet, Ticked, Done, Rolled}
use Rattle.tenant_core.specs.declared.journal.Record.{Record}
use Rattle.tenant_core.specs.declared.opening.Opening.{Opening}
use Rattle.tenant_core.specs.declared.peer.Peer.{Peer}
use Rattle.tenant_core.specs.declared.terms.BucketTerms.{BucketTerms}
use Rattle.tenant_core.specs.declared.terms.PeerLimits.{PeerLimits}
use Rattle.tenant_core.specs.declared.terms.PeerTerms.{PeerTerms}
use Rattle.tenant_core.specs.declared.terms.RateTerms.{RateTerms}
use Rattle.tenant_core.specs.declared.verdict.Verdict.{Verdict}
use Rattle.tenant_core.specs.declared.verdict.Verdict.TheVariants.{Unknown, NoRoom, Refuse, Fulfil, Forward, Relay}

-- ---- what a line can state: what the types of its parts keep

-- the text has neither a space nor a line feed, nor another control character
abbrev pub is_word : List ℕ → Bool
is_word text = list_all (λ b. nat_lt 32 b) text

-- a number of 64 bits, and the number of a peer
abbrev pub IsNumber : ℕ → Type 0
IsNumber n = n ≤ max_number

abbrev pub IsPeerNumber : ℕ → Type 0
IsPeerNumber n = n ≤ 65_535

-- 32 bytes
abbrev pub IsHash : List ℕ → Type 0
IsHash bytes = (length bytes ≡ 32) × AreBytes bytes

pub record IsHop (h : Hop) : Type 0 where
  pub peer : IsPeerNumber h.peer
  pub fee : h.fee ≤ max_money

pub record IsRate (r : RateTerms) : Type 0 where
  pub from : IsPeerNumber r.from
  pub to : IsPeerNumber r.to
  pub rate : IsFraction r.rate.numerator r.rate.denominator

-- what is agreed with a peer, but for its token and its target
pub record AreWritable (t : PeerTerms) : Type 0 where
  pub name : is_name t.name ≡ true
  pub asset : is_asset_code t.asset ≡ true
  pub scale : t.scale ≤ 255
  pub limits : are_limits_within t.limits ≡ true
  pub bucket : is_bucket_within t.bucket ≡ true

pub record IsPacket (d : DecideEntry) : Type 0 where
  pub peer : IsPeerNumber d.peer
  pub amount : IsNumber d.amount
  pub expiry : IsNumber d.expiry
  pub condition : IsHash d.condition
  pub destination : IsAddress d.destination

abbrev pub IsKey : AnswerKey → Type 0
IsKey (Fulfilled fulfillment) = IsHash fulfillment
IsKey Rejected = Unit {0}
IsKey Fault = Unit {0}

abbrev pub IsChange : Changed → Type 0
IsChange (PeerAdded t) = AreWritable t
IsChange (PeerRemoved n) = IsPeerNumber n
IsChange (LimitsSet n limits) = IsPeerNumber n × (are_limits_within limits ≡ true)
IsChange (BucketSet n bucket) = IsPeerNumber n × (is_bucket_within bucket ≡ true)
IsChange (RouteAdded prefix hop) = IsPrefix prefix × IsHop hop
IsChange (RouteRemoved prefix) = IsPrefix prefix
IsChange (RateSet r) = IsRate r
IsChange (Settled n side amount) = IsPeerNumber n × (is_between 1 max_money amount ≡ true)

abbrev pub IsEntry : Entry → Type 0
IsEntry (Decide d) = IsPacket d
IsEntry (Answer a) = IsNumber a.hold × IsKey a.key
IsEntry (Tick t) = Unit {0}
IsEntry (Change c) = IsChange c.change
IsEntry (Roll r) = Unit {0}

abbrev pub IsVerdict : Verdict → Type 0
IsVerdict (Refuse code (Some amounts)) = IsNumber amounts.0 × IsNumber amounts.1
IsVerdict (Refuse code None) = Unit {0}
IsVerdict (Forward hold peer amount expiry) = IsNumber hold × IsPeerNumber peer × IsNumber amount × IsNumber expiry
IsVerdict Unknown = Unit {0}
IsVerdict NoRoom = Unit {0}
IsVerdict Fulfil = Unit {0}
IsVerdict Relay = Unit {0}

abbrev pub IsOutcome : Outcome → Type 0
IsOutcome (Packet v) = IsVerdict v
IsOutcome (Ticked count) = IsNumber count
IsOutcome Done = Unit {0}
IsOutcome Rolled = Unit {0}

pub record IsWritable (r : Record) : Type 0 where
  pub moment : IsNumber (entered_at r.entry)
  pub entry : IsEntry r.entry
  pub outcome : IsOutcome r.outcome

-- the tenant's own terms; the numbers that a period begins with; its peers; its routes
pub record IsOwnWritable (o : Opening) : Type 0 where
  pub tenant : IsNumber o.tenant
  pub name : is_name o.name ≡ true
  pub address : is_own_address o.address ≡ true
  pub journal : IsNumber o.journal
  pub margin : IsNumber o.margin
  pub hold : IsNumber o.hold

pub record AreNumbersWritable (o : Opening) : Type 0 where
  pub period : IsNumber o.period
  pub clock : IsNumber o.clock
  pub next_hold : IsNumber o.next_hold
  pub next_peer : IsPeerNumber o.network.next_peer

pub record IsPeerWritable (p : Peer) : Type 0 where
  pub number : IsPeerNumber p.number
  pub terms : AreWritable p.terms
  pub balance : is_balance_within p.balance ≡ true
  pub credit : IsNumber p.bucket.credit

pub record IsRouteWritable (r : Route) : Type 0 where
  pub prefix : IsPrefix r.prefix
  pub hop : IsHop r.hop

-- ---- what is read again

-- what is agreed with the peer of that number, with a token by its number and no target
abbrev pub hidden_terms : ℕ → PeerTerms → PeerTerms
hidden_terms n t = record t { token = decimal n; target = nowhere }

-- the change and the entry with such terms, where the next peer that is added gets that number
abbrev pub hidden_change : ℕ → Changed → Changed
hidden_change n (PeerAdded t) = PeerAdded (hidden_terms n t)
hidden_change n (PeerRemoved peer) = PeerRemoved peer
hidden_change n (LimitsSet peer limits) = LimitsSet peer limits
hidden_change n (BucketSet peer bucket) = BucketSet peer bucket
hidden_change n (RouteAdded prefix hop) = RouteAdded prefix hop
hidden_change n (RouteRemoved prefix) = RouteRemoved prefix
hidden_change n (RateSet r) = RateSet r
hidden_change n (Settled peer side amount) = Settled peer side amount

abbrev pub hidden_entry : ℕ → Entry → Entry
hidden_entry n (Change c) = Change (record c { change = hidden_change n c.change })
hidden_entry n (Decide d) = Decide d
hidden_entry n (Answer a) = Answer a
hidden_entry n (Tick t) = Tick t
hidden_entry n (Roll r) = Roll r

-- what the lines of an opening tell
abbrev pub stated_tenant : Opening → StatedTenant
stated_tenant o =
    record {
      tenant = o.tenant;
      name = o.name;
      address = o.address;
      journal = o.journal;
      margin = o.margin;
      hold = o.hold;
    }

abbrev pub stated_start : Opening → StatedStart
stated_start o =
    record { period = o.period; clock = o.clock; next_hold = o.next_hold; next_peer = o.network.next_peer }

abbrev pub stated_peer : Peer → StatedPeer
stated_peer p =
    record { number = p.number; terms = hidden_terms p.number p.terms; balance = p.balance; credit = p.bucket.credit }

-- what is read after the first word
abbrev pub after_verb : {V : Type 0} → (List (List ℕ) → Option V) → List (List ℕ) → Option V
after_verb read words = option_and_then (λ verb. read verb.rest) (word_read words)

-- In front of any text it is one line, whose words are read as that.
abbrev pub IsReadAs : {V : Type 0} → (List (List ℕ) → Option V) → List ℕ → V → Type 0
IsReadAs read line v =
    (text : List ℕ) → (l : List ℕ) × (line_read (text_lines (line ++ text)) ≡ Some (read_part l (text_lines text)))
    × (read (words_of l) ≡ Some v)

-- What is written as words, whatever follows, is read back, and what follows is left.
pub record ReadBackLaws : Type 0 where
  pub number : (low high n : ℕ) (rest : List (List ℕ)) → high < 2 ^ 64 → is_between low high n ≡ true
      → number_read low high (decimal n ∷ rest) ≡ Some (read_part n rest)
  pub hash : (bytes : List ℕ) (rest : List (List ℕ)) → IsHash bytes
      → hash_read (encode_lower bytes ∷ rest) ≡ Some (read_part bytes rest)
  pub limits : (l : PeerLimits) (rest : List (List ℕ)) → are_limits_within l ≡ true
      → limits_read (limits_words l ++ rest) ≡ Some (read_part l rest)
  pub bucket : (b : BucketTerms) (rest : List (List ℕ)) → is_bucket_within b ≡ true
      → bucket_read (bucket_words b ++ rest) ≡ Some (read_part b rest)
  pub terms : (n : ℕ) (t : PeerTerms) (rest : List (List ℕ)) → AreWritable t
      → terms_read n (terms_words t ++ rest) ≡ Some (read_part (hidden_terms n t) rest)
  pub prefix : (prefix : List ℕ) → IsPrefix prefix → prefix_spelled (prefix_word prefix) ≡ Some prefix
  pub rate : (r : RateTerms) (rest : List (List ℕ)) → IsRate r
      → rate_read (rate_words r ++ rest) ≡ Some (read_part r rest)
  -- the line of a record is read as its entry, where the next peer that is added gets that number
  pub record_line : (n : ℕ) (r : Record) → IsWritable r → IsReadAs (entry_read n) (record_line r) (hidden_entry n r.entry)
  -- the lines of an opening are read as what they tell
  pub tenant_line : (o : Opening) → IsOwnWritable o → IsReadAs tenant_read (tenant_line o) (stated_tenant o)
  pub period_line : (o : Opening) → AreNumbersWritable o → IsReadAs start_read (period_line o) (stated_start o)
  pub peer_line : (p : Peer) → IsPeerWritable p → IsReadAs (after_verb peer_read) (peer_line p) (stated_peer p)
  pub route_line : (r : Route) → IsRouteWritable r → IsReadAs (after_verb route_read) (route_line r) r
  pub rate_line : (r : RateTerms) → IsRate r → IsReadAs (after_verb rate_read) (rate_line r) (read_part r [])
