-- The verdict on a Prepare: that of the first check that fails, line by line. `fails ⇒ verdict` is a check, and
-- `name ← search otherwise verdict` one that finds what later lines name.
use Rattle.std.specs.Prelude.{ℕ, ◌≤◌, ◌+◌, Bool, true, false, not, List, length, max, Option, Some, None, Result, Ok, Err, nat_lt}
use Rattle.std.specs.Prelude.{nat_le, if◌then◌else◌}
use Rattle.ildcp_core.specs.Client.{Client}
use Rattle.ildcp_core.specs.Request.{is_config, checked_request}
use Rattle.ildcp_core.specs.declared.fault.IldcpFault.{IldcpFault}
use Rattle.ildcp_core.specs.declared.fault.IldcpFault.TheVariants.{NotChild, Amount, Condition}
use Rattle.money_core.specs.Fraction.{Fraction}
use Rattle.money_core.specs.Price.{price_less, greatest_amount}
use Rattle.rate_bucket.specs.Bucket.{is_admitted}
use Rattle.tenant_core.specs.Bucket.{stretch_of}
use Rattle.tenant_core.specs.Checks.{◌⇒◌, ◌otherwise◌, ◌>>◌, ◌>>=◌}
use Rattle.tenant_core.specs.Key.{Key}
use Rattle.tenant_core.specs.Limits.{max_holds}
use Rattle.tenant_core.specs.Purse.{is_over_ceiling, is_over_credit}
use Rattle.tenant_core.specs.Routing.{Way, stays_here, onward, rate_between, outgoing_expiry}
use Rattle.tenant_core.specs.Holds.{open_holds, next_hold}
use Rattle.tenant_core.specs.Network.{peer_with_token}
use Rattle.tenant_core.specs.Present.{network_of}
use Rattle.tenant_core.specs.State.{State, clock_of, recorded}
use Rattle.tenant_core.specs.declared.opening.Opening.{Opening}
use Rattle.tenant_core.specs.declared.peer.Peer.{Peer}
use Rattle.tenant_core.specs.declared.journal.DecideEntry.{DecideEntry}
use Rattle.tenant_core.specs.declared.journal.Entry.TheVariants.{Decide}
use Rattle.tenant_core.specs.declared.journal.Outcome.TheVariants.{Packet}
use Rattle.tenant_core.specs.declared.journal.Record.{Record}
use Rattle.tenant_core.specs.declared.verdict.RejectCode.{RejectCode}
use Rattle.tenant_core.specs.declared.verdict.RejectCode.TheVariants.{BadRequest, Unreachable, InvalidAmount, WrongCondition, AmountTooLarge, Busy}
use Rattle.tenant_core.specs.declared.verdict.RejectCode.TheVariants.{InsufficientLiquidity, RateLimited}
use Rattle.tenant_core.specs.declared.verdict.RejectCode.TheVariants.{InsufficientSource, InsufficientTimeout}
use Rattle.tenant_core.specs.declared.verdict.Verdict.{Verdict}
use Rattle.tenant_core.specs.declared.verdict.Verdict.TheVariants.{Unknown, NoRoom, Refuse, Fulfil, Forward, Relay}

-- a refusal that names no amounts (RFC 0027, "Error Codes")
abbrev pub refuse : RejectCode → Verdict
refuse code = Refuse code None

-- the amount is too large, and that is the greatest one
abbrev pub refuse_over : ℕ → ℕ → Verdict
refuse_over amount greatest = Refuse AmountTooLarge (Some (amount, greatest))

-- the journal has no room for another entry, its answer and those of all open holds
abbrev pub is_full : State → Bool
is_full s = nat_lt s.opening.journal (length s.records + open_holds s + 2)

-- a peer, as far as its configuration goes (RFC 0031)
abbrev pub child_of : Opening → Peer → Client
child_of o p =
    record {
      role = p.terms.role;
      tenant = o.address;
      name = p.terms.name;
      scale = p.terms.scale;
      code = p.terms.asset;
    }

-- the verdict on a request for the configuration (RFC 0031)
abbrev pub config_verdict : Result (Unit {0}) IldcpFault → Verdict
config_verdict (Ok good) = Fulfil
config_verdict (Err NotChild) = refuse BadRequest
config_verdict (Err Amount) = refuse InvalidAmount
config_verdict (Err Condition) = refuse WrongCondition

-- the last checks: those of a packet of one peer that goes that way, at the rate between the two
abbrev pub verdict_at_rate : State → Peer → Way → Fraction → Key → ℕ → Verdict
verdict_at_rate s from way rate key clock = do
  price ← price_less rate key.amount way.fee otherwise refuse InsufficientSource
  let expiry = outgoing_expiry s.opening key.expiry clock
  let to = way.peer
  let greatest = greatest_amount rate from.terms.limits.cap (to.terms.limits.cap + way.fee)
  nat_lt to.terms.limits.cap price ⇒ refuse_over key.amount greatest
  nat_le expiry clock ⇒ refuse InsufficientTimeout
  is_over_ceiling s from key.amount ⇒ refuse InsufficientLiquidity
  is_over_credit s to price ⇒ refuse InsufficientLiquidity
  nat_le max_holds (open_holds s) ⇒ refuse Busy
  Forward (next_hold s) to.number price expiry

-- the checks before them: those of a packet of a peer, for which the journal has room
abbrev pub verdict_for_sender : State → Peer → Key → ℕ → Verdict
verdict_for_sender s from key clock = do
  not (is_admitted (stretch_of s from) clock) ⇒ refuse RateLimited
  nat_le key.expiry clock ⇒ refuse InsufficientTimeout
  is_config key.destination ⇒ config_verdict (checked_request from.terms.role key.amount key.condition)
  stays_here s.opening key.destination ⇒ refuse Unreachable
  nat_lt from.terms.limits.cap key.amount ⇒ refuse_over key.amount from.terms.limits.cap
  way ← onward (network_of s) from.number key.destination otherwise refuse Unreachable
  rate ← rate_between (network_of s) from.number way.peer.number otherwise refuse Unreachable
  verdict_at_rate s from way rate key clock

-- the verdict on a Prepare that came with this token at this moment
abbrev pub judge : State → List ℕ → Key → ℕ → Verdict
judge s token key now = do
  from ← peer_with_token token (network_of s).peers otherwise Unknown
  is_full s ⇒ NoRoom
  verdict_for_sender s from key (max (clock_of s) now)

-- the entry of a Prepare of the peer of that number
abbrev pub decide_entry : ℕ → Key → ℕ → DecideEntry
decide_entry peer key now =
    record {
      peer = peer;
      amount = key.amount;
      expiry = key.expiry;
      condition = key.condition;
      destination = key.destination;
      now = now;
    }

-- the record of that Prepare
abbrev pub decide_record : ℕ → Key → ℕ → Verdict → Record
decide_record peer key now v = record { entry = Decide (decide_entry peer key now); outcome = Packet v }

-- the verdict is recorded
abbrev pub is_recorded : Verdict → Bool
is_recorded Unknown = false
is_recorded NoRoom = false
is_recorded (Refuse code amounts) = true
is_recorded Fulfil = true
is_recorded (Forward hold peer amount expiry) = true
is_recorded Relay = true

-- the record that a Prepare of that peer leaves, if its verdict is recorded
abbrev pub record_left : Option Peer → Key → ℕ → Verdict → Option Record
record_left None key now v = None
record_left (Some from) key now v = if is_recorded v then Some (decide_record from.number key now v) else None

-- the record that the decide of a Prepare makes, if it makes one
abbrev pub decide_made : State → List ℕ → Key → ℕ → Option Record
decide_made s token key now =
    record_left (peer_with_token token (network_of s).peers) key now (judge s token key now)

-- the state after a Prepare was decided
abbrev pub decided : State → List ℕ → Key → ℕ → State
decided s token key now = recorded s (decide_made s token key now)

-- a packet that goes on expires no later than it did
abbrev pub IsSooner : Verdict → ℕ → Type 0
IsSooner (Forward hold peer amount outgoing) expiry = outgoing ≤ expiry
IsSooner _ expiry = Unit {0}
