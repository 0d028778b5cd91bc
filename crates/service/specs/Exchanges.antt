-- How long an exchange with a peer may last, and how often a packet goes out.
use Rattle.std.specs.Prelude.{ℕ, ◌≡◌, ◌+◌, ◌*◌, ◌-◌, ◌⊎◌, Bool, true, false, min, nat_lt, List, Some, if◌then◌else◌}
use Rattle.std.specs.List.{slice_get}
use Rattle.std.specs.Time.{instant_nanos}
use Rattle.std.specs.declared.time.Instant.{Instant}
use Rattle.breaker.specs.Breaker.{least_time, time_under}
use Rattle.breaker.specs.declared.breaker.Outcome.{Outcome}
use Rattle.breaker.specs.declared.breaker.Outcome.TheVariants.{Answered, Missed, Unknown}
use Rattle.breaker.specs.declared.breaker.Pass.{Pass}
use Rattle.floor_core.specs.declared.parts.Got.{Got}
use Rattle.floor_core.specs.declared.parts.Got.TheVariants.{Fault, Filled}
use Rattle.workers.specs.Replies.{Sending}
use Rattle.workers.specs.declared.traits.Outgoing.{Outgoing}
use Rattle.service.specs.declared.office.Terms.{Terms}

-- for how many milliseconds from now on: as long as the tenant holds a packet at most, which counts from the stop on in a service
-- that stops, and until the packet expires
abbrev pub exchange_time : (hold expiry now stopping : ℕ) → ℕ
exchange_time hold expiry now stopping = min (hold - stopping) (expiry - now)

-- for so many milliseconds, by the terms of the packet's tenant, a moment that the clock gave, and how long the service has stopped
abbrev pub IsTimeFor : (Gives : ℕ → Type 0) → List Terms → (tenant expiry time : ℕ) → Type 0
IsTimeFor Gives terms tenant expiry time =
    (agreed : Terms) × (now : ℕ) × (stopping : ℕ) × (slice_get terms tenant ≡ Some agreed) × Gives now
    × (time ≡ exchange_time agreed.hold expiry now stopping)

-- until that moment, so many milliseconds after another, as a packet with that pass may
abbrev pub IsEndFor : (Gives : ℕ → Type 0) → List Terms → (tenant expiry : ℕ) → Pass → Instant → Type 0
IsEndFor Gives terms tenant expiry pass until =
    (begun : Instant) × (time : ℕ) × IsTimeFor Gives terms tenant expiry time
    × (instant_nanos until ≡ instant_nanos begun + time_under pass time * 1000000)

-- what is known of a peer after an exchange for which it had so many milliseconds: it answered, or it missed, unless they were few
abbrev pub outcome_of : Got → (time : ℕ) → Outcome
outcome_of (Filled n) time = Answered
outcome_of Fault time = if nat_lt time least_time then Unknown else Missed

-- a peer that answered is known to have answered, and no other is
abbrev pub is_known_by : Got → Outcome → Bool
is_known_by (Filled n) Answered = true
is_known_by (Filled n) Missed = false
is_known_by (Filled n) Unknown = false
is_known_by Fault Answered = false
is_known_by Fault Missed = true
is_known_by Fault Unknown = true

-- one exchange was made, which gave that, or none was made and nothing came back
abbrev pub IsOneExchange : Got → (Untouched Exchanged : Type 0) → Type 0
IsOneExchange got Untouched Exchanged = ((got ≡ Fault) × Untouched) ⊎ Exchanged

-- the sending of a packet, and what came back
abbrev pub sending_of : Outgoing → Got → List ℕ → Sending
sending_of packet got room = record {
  tenant = packet.tenant;
  target = packet.target.now;
  frame = packet.frame.now;
  expiry = packet.expiry;
  got = got;
  room = room;
}
