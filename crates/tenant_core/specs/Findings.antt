-- Which check decides on a Prepare: that of the first line that fails, in the order of `judge`.
use Rattle.std.specs.Prelude.{ℕ, ◌+◌, List, length, max, not, Option, Some, None, Result, Ok, Err, nat_lt, nat_le, ◌==◌, if◌then◌else◌}
use Rattle.ildcp_core.specs.Request.{is_config, checked_request}
use Rattle.ildcp_core.specs.declared.fault.IldcpFault.{IldcpFault}
use Rattle.ildcp_core.specs.declared.fault.IldcpFault.TheVariants.{NotChild, Amount, Condition}
use Rattle.ilp_addr.specs.OwnAddress.{is_for_neighbors}
use Rattle.money_core.specs.Fraction.{Fraction}
use Rattle.money_core.specs.Price.{price_of, price_less, greatest_amount}
use Rattle.rate_bucket.specs.Bucket.{is_admitted, credit_at}
use Rattle.route_table.specs.Routes.{best_route}
use Rattle.route_table.specs.declared.hop.Hop.{Hop}
use Rattle.std.specs.Str.{bytes_eq}
use Rattle.tenant_core.specs.Bucket.{stretch_of}
use Rattle.tenant_core.specs.Checks.{◌⇒◌, ◌otherwise◌, ◌>>◌, ◌>>=◌}
use Rattle.tenant_core.specs.Holds.{open_holds, next_hold}
use Rattle.tenant_core.specs.Judge.{refuse, refuse_over, is_full}
use Rattle.tenant_core.specs.Key.{Key}
use Rattle.tenant_core.specs.Limits.{max_holds}
use Rattle.tenant_core.specs.Network.{Net, peer_with_token}
use Rattle.tenant_core.specs.Present.{network_of}
use Rattle.tenant_core.specs.Purse.{balance_of, held_in_of, held_out_of, is_over_ceiling, is_over_credit}
use Rattle.tenant_core.specs.Routing.{Way, onward, rate_between, outgoing_expiry}
use Rattle.tenant_core.specs.State.{State, clock_of}
use Rattle.tenant_core.specs.declared.finding.Finding.{Finding}
use Rattle.tenant_core.specs.declared.finding.Finding.TheVariants.{NoPeer, JournalFull, BucketEmpty, Expired, NoChild, ConfigAmount}
use Rattle.tenant_core.specs.declared.finding.Finding.TheVariants.{ConfigCondition, Config, ForNeighbors, OwnAddress, OverCap, NoRoute}
use Rattle.tenant_core.specs.declared.finding.Finding.TheVariants.{LeadsBack, NoRate, BelowFee, OverNextCap, ExpiresOnward, OverCeiling}
use Rattle.tenant_core.specs.declared.finding.Finding.TheVariants.{OverCredit, TooManyHeld, GoesOn}
use Rattle.tenant_core.specs.declared.peer.Peer.{Peer}
use Rattle.tenant_core.specs.declared.verdict.RejectCode.TheVariants.{BadRequest, Unreachable, InvalidAmount, WrongCondition, Busy}
use Rattle.tenant_core.specs.declared.verdict.RejectCode.TheVariants.{InsufficientLiquidity, RateLimited}
use Rattle.tenant_core.specs.declared.verdict.RejectCode.TheVariants.{InsufficientSource, InsufficientTimeout}
use Rattle.tenant_core.specs.declared.verdict.Verdict.{Verdict}
use Rattle.tenant_core.specs.declared.verdict.Verdict.TheVariants.{Unknown, NoRoom, Fulfil, Forward}

-- the verdict that a finding leads to
abbrev pub verdict_of : Finding → Verdict
verdict_of NoPeer = Unknown
verdict_of (JournalFull entries awaited places) = NoRoom
verdict_of (BucketEmpty credit) = refuse RateLimited
verdict_of (Expired expiry clock) = refuse InsufficientTimeout
verdict_of NoChild = refuse BadRequest
verdict_of (ConfigAmount amount) = refuse InvalidAmount
verdict_of ConfigCondition = refuse WrongCondition
verdict_of Config = Fulfil
verdict_of ForNeighbors = refuse Unreachable
verdict_of OwnAddress = refuse Unreachable
verdict_of (OverCap amount cap) = refuse_over amount cap
verdict_of NoRoute = refuse Unreachable
verdict_of LeadsBack = refuse Unreachable
verdict_of (NoRate to) = refuse Unreachable
verdict_of (BelowFee price fee) = refuse InsufficientSource
verdict_of (OverNextCap to price cap amount greatest) = refuse_over amount greatest
verdict_of (ExpiresOnward expiry clock) = refuse InsufficientTimeout
verdict_of (OverCeiling balance held amount ceiling) = refuse InsufficientLiquidity
verdict_of (OverCredit to balance held price credit) = refuse InsufficientLiquidity
verdict_of (TooManyHeld awaited) = refuse Busy
verdict_of (GoesOn hold to price expiry) = Forward hold to price expiry

-- what is found of a request for the configuration (RFC 0031)
abbrev pub config_finding : ℕ → Result (Unit {0}) IldcpFault → Finding
config_finding amount (Ok good) = Config
config_finding amount (Err NotChild) = NoChild
config_finding amount (Err Amount) = ConfigAmount amount
config_finding amount (Err Condition) = ConfigCondition

-- why a packet of the peer of that number goes nowhere, by its best route
abbrev pub astray_by : ℕ → Option Hop → Finding
astray_by from None = NoRoute
astray_by from (Some hop) = if hop.peer == from then LeadsBack else NoRoute

abbrev pub astray : Net → ℕ → List ℕ → Finding
astray net from destination = astray_by from (best_route net.routes destination)

-- the last checks: those of a packet of one peer that goes that way, at the rate between the two
abbrev pub finding_at_rate : State → Peer → Way → Fraction → Key → ℕ → Finding
finding_at_rate s from way rate key clock = do
  price ← price_less rate key.amount way.fee otherwise BelowFee (price_of rate key.amount) way.fee
  let expiry = outgoing_expiry s.opening key.expiry clock
  let to = way.peer
  let greatest = greatest_amount rate from.terms.limits.cap (to.terms.limits.cap + way.fee)
  nat_lt to.terms.limits.cap price ⇒ OverNextCap to.number price to.terms.limits.cap key.amount greatest
  nat_le expiry clock ⇒ ExpiresOnward expiry clock
  is_over_ceiling s from key.amount
      ⇒ OverCeiling (balance_of s from.number) (held_in_of s from.number) key.amount from.terms.limits.ceiling
  is_over_credit s to price
      ⇒ OverCredit to.number (balance_of s to.number) (held_out_of s to.number) price to.terms.limits.credit
  nat_le max_holds (open_holds s) ⇒ TooManyHeld (open_holds s)
  GoesOn (next_hold s) to.number price expiry

-- the checks before them: those of a packet of a peer, for which the journal has room
abbrev pub finding_for_sender : State → Peer → Key → ℕ → Finding
finding_for_sender s from key clock = do
  not (is_admitted (stretch_of s from) clock) ⇒ BucketEmpty (credit_at (stretch_of s from) clock)
  nat_le key.expiry clock ⇒ Expired key.expiry clock
  is_config key.destination ⇒ config_finding key.amount (checked_request from.terms.role key.amount key.condition)
  is_for_neighbors key.destination ⇒ ForNeighbors
  bytes_eq key.destination s.opening.address ⇒ OwnAddress
  nat_lt from.terms.limits.cap key.amount ⇒ OverCap key.amount from.terms.limits.cap
  way ← onward (network_of s) from.number key.destination otherwise astray (network_of s) from.number key.destination
  rate ← rate_between (network_of s) from.number way.peer.number otherwise NoRate way.peer.number
  finding_at_rate s from way rate key clock

-- which check decides on a Prepare that came with this token at this moment
abbrev pub finding_of : State → List ℕ → Key → ℕ → Finding
finding_of s token key now = do
  from ← peer_with_token token (network_of s).peers otherwise NoPeer
  is_full s ⇒ JournalFull (length s.records) (open_holds s) s.opening.journal
  finding_for_sender s from key (max (clock_of s) now)
