-- What an event does to the book of a tenant.
use Rattle.std.proofs.Common.{◌≡◌, ℕ, Bool, true, false, List, [], ◌∷◌, Option, append-nil, refl, sym, inl, inr}
use Rattle.std.specs.Prelude.{Some, None, Result, Ok, Err, if◌then◌else◌, option_map}
use Rattle.floor_core.specs.World.{Effect, Event, Stage, Tenant, answer_key, arrival, arrived, call_answered, call_decided, call_judged, call_settled, effect_of, heard, key_in}
use Rattle.floor_core.specs.declared.step.Malformed.{Malformed}
use Rattle.floor_core.specs.declared.step.PeerAnswer.{PeerAnswer}
use Rattle.ilp_view.specs.Packet.{Prepare}
use Rattle.tenant_core.specs.Answer.{answer_made, answer_record, answer_to, has_no_place, settle_answer, tick_count, tick_made, tick_record}
use Rattle.tenant_core.specs.Holds.{open_hold}
use Rattle.tenant_core.specs.declared.hold.Hold.{Hold}
use Rattle.tenant_core.specs.Judge.{decide_made, decide_record, is_recorded, judge, record_left}
use Rattle.tenant_core.specs.Key.{Key}
use Rattle.tenant_core.specs.Network.{peer_with_token}
use Rattle.tenant_core.specs.Orders.{ordered}
use Rattle.tenant_core.specs.Periods.{roll_refusal}
use Rattle.tenant_core.specs.Present.{network_of}
use Rattle.tenant_core.specs.State.{State, recorded}
use Rattle.tenant_core.specs.declared.command.Command.TheVariants as command
use Rattle.tenant_core.specs.declared.faults.CommandFault.{CommandFault}
use Rattle.tenant_core.specs.declared.faults.HoldFault.{HoldFault}
use Rattle.tenant_core.specs.declared.journal.AnswerKey.{AnswerKey}
use Rattle.tenant_core.specs.declared.journal.Change.{Change as Changed}
use Rattle.tenant_core.specs.declared.journal.Record.{Record}
use Rattle.tenant_core.specs.declared.peer.Peer.{Peer}
use Rattle.tenant_core.specs.declared.verdict.Verdict.{Verdict}
use Rattle.tenant_core.specs.declared.verdict.Verdict.TheVariants.{Unknown, NoRoom, Refuse, Fulfil, Forward, Relay}
use Rattle.journal_law.specs.Growth.{GoesOn, GoesOnOrRolls, HasGrown, is_roll}

-- a record that is made, if one is, is not a roll's
abbrev NoRoll : Option Record → Type 0
NoRoll None = Unit {0}
NoRoll (Some r) = is_roll r.entry ≡ false

made_more : Option Record → List Record
made_more None = []
made_more (Some r) = r ∷ []

made_grows : (s : State) (made : Option Record) → NoRoll made → HasGrown s (made_more made) (recorded s made)
unfolding made_more
made_grows s None h = record { opening = refl; records = sym (append-nil s.records); running = tt }
made_grows s (Some r) h = record { opening = refl; records = refl; running = (h, tt) }

stays : (s : State) → HasGrown s [] s
stays s = record { opening = refl; records = sym (append-nil s.records); running = tt }

-- ---- the records that are made

if_recorded : (b : Bool) (r : Record) → is_roll r.entry ≡ false → NoRoll (if b then Some r else None)
if_recorded true r h = h
if_recorded false r h = tt

if_placed : (b : Bool) (r : Record) → is_roll r.entry ≡ false → NoRoll (if b then None else Some r)
if_placed true r h = tt
if_placed false r h = h

packet_is_no_roll : (from : Option Peer) (key : Key) (now : ℕ) (v : Verdict) → NoRoll (record_left from key now v)
packet_is_no_roll None key now v = tt
packet_is_no_roll (Some from) key now v = if_recorded (is_recorded v) (decide_record from.number key now v) refl

answer_is_no_roll : (open_one : Option Hold) (hold now clock : ℕ) (key : AnswerKey)
    → NoRoll (option_map (λ h. answer_record hold now key (settle_answer h clock key)) open_one)
answer_is_no_roll None hold now clock key = tt
answer_is_no_roll (Some h) hold now clock key = refl

-- ---- the effects

arrives : (s : Tenant) (token : List ℕ) (a : Result Prepare Malformed) → GoesOnOrRolls s.book (arrived s token a)
arrives s token (Ok p) = inl (record { none = refl; more = []; grown = stays s.book })
arrives s token (Err wrong) = inl (record { none = refl; more = []; grown = stays s.book })

abbrev pub Goes : State → Effect → Type 0
Goes before effect = GoesOn before effect.output effect.after.book

is_judged : (s : Tenant) (call : ℕ) (token : List ℕ) (p : Prepare) (made : Option Record) (v : Verdict) → NoRoll made
    → Goes s.book (call_judged s call token p made v)
is_judged s call token p made Unknown h = record { none = refl; more = made_more made; grown = made_grows s.book made h }
is_judged s call token p made NoRoom h = record { none = refl; more = made_more made; grown = made_grows s.book made h }
is_judged s call token p made (Refuse code amounts) h = record { none = refl; more = made_more made; grown = made_grows s.book made h }
is_judged s call token p made Fulfil h = record { none = refl; more = made_more made; grown = made_grows s.book made h }
is_judged s call token p made (Forward hold peer amount expiry) h = record { none = refl; more = made_more made; grown = made_grows s.book made h }
is_judged s call token p made Relay h = record { none = refl; more = made_more made; grown = made_grows s.book made h }

pub is_decided : (s : Tenant) (call : ℕ) (stage : Option Stage) (now : ℕ) → Goes s.book (call_decided s call stage now)
is_decided s call None now = record { none = refl; more = []; grown = stays s.book }
is_decided s call (Some (Stage.Sent hold)) now = record { none = refl; more = []; grown = stays s.book }
is_decided s call (Some (Stage.Ready token p)) now =
    is_judged s call token p (decide_made s.book token (key_in p) now) (judge s.book token (key_in p) now)
    (packet_is_no_roll (peer_with_token token (network_of s.book).peers) (key_in p) now (judge s.book token (key_in p) now))

is_settled : (s : Tenant) (call : ℕ) (given : PeerAnswer) (made : Option Record) (r : Result Verdict HoldFault) → NoRoll made
    → Goes s.book (call_settled s call given made r)
is_settled s call given made (Ok v) h = record { none = refl; more = made_more made; grown = made_grows s.book made h }
is_settled s call given made (Err f) h = record { none = refl; more = []; grown = stays s.book }

pub is_answered : (s : Tenant) (call : ℕ) (stage : Option Stage) (now : ℕ) (given : PeerAnswer) → Goes s.book (call_answered s call stage now given)
is_answered s call None now given = record { none = refl; more = []; grown = stays s.book }
is_answered s call (Some (Stage.Ready token p)) now given = record { none = refl; more = []; grown = stays s.book }
is_answered s call (Some (Stage.Sent hold)) now given =
    is_settled s call given (answer_made s.book hold now (answer_key given)) (answer_to s.book hold now (answer_key given))
    (answer_is_no_roll (open_hold s.book hold) hold now _ (answer_key given))

ordered_goes_on : (s : Tenant) (now : ℕ) (order : _) (r : Result Changed CommandFault) → ordered s.book order ≡ r
    → GoesOnOrRolls s.book (effect_of s (Event.Governs now (command.Order order)))
ordered_goes_on s now order (Ok change) is = rw is (inl (record { none = refl; more = _; grown = made_grows s.book (Some _) refl }))
ordered_goes_on s now order (Err fault) is = rw is (inl (record { none = refl; more = []; grown = stays s.book }))

rolls_or_not : (s : Tenant) (now : ℕ) (why : Option CommandFault) → roll_refusal s.book ≡ why
    → GoesOnOrRolls s.book (effect_of s (Event.Governs now command.Roll))
rolls_or_not s now None is =
    rw is (inr (record { period = _; one = refl; now = now; rolled = record { closed = refl; next = refl } }))
rolls_or_not s now (Some fault) is = rw is (inl (record { none = refl; more = []; grown = stays s.book }))

pub event_goes_on : (s : Tenant) (e : Event) → GoesOnOrRolls s.book (effect_of s e)
event_goes_on s (Event.Arrives token bytes) = arrives s token (arrival token bytes)
event_goes_on s (Event.Decides call now) = inl (is_decided s call (s.calls call) now)
event_goes_on s (Event.Answers call now given) = inl (is_answered s call (s.calls call) now (heard given))
event_goes_on s (Event.Ticks now) =
    inl (record {
      none = refl;
      more = made_more (tick_made s.book now);
      grown = made_grows s.book (tick_made s.book now)
          (if_placed (has_no_place s.book) (tick_record now (tick_count s.book _)) refl);
    })
event_goes_on s (Event.Governs now (command.Order order)) = ordered_goes_on s now order (ordered s.book order) refl
event_goes_on s (Event.Governs now command.Balances) = inl (record { none = refl; more = []; grown = stays s.book })
event_goes_on s (Event.Governs now command.Roll) = rolls_or_not s now (roll_refusal s.book) refl
