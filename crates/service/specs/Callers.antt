-- What becomes of those who wait at a door, and whose turn is next.
use Rattle.std.specs.Prelude.{ℕ, ◌+◌, ◌-◌, ◌%◌, ◌^◌, min, nat_le, if◌then◌else◌}
use Rattle.service.specs.declared.host.callers.Due.{Due}
use Rattle.service.specs.declared.host.callers.Due.TheVariants as due
use Rattle.service.specs.declared.host.callers.Fate.{Fate}
use Rattle.service.specs.declared.host.callers.Fate.TheVariants as fate

-- a request that can be answered is; one that has not come has half a second, unless it waits for the end of the service
abbrev pub fate_of : Due → (waited : ℕ) → Fate
fate_of due.Later waited = if nat_le 500 waited then fate.Dismissed else fate.Waits
fate_of due.Invited waited = if nat_le 500 waited then fate.Dismissed else fate.Invited
fate_of (due.Now tenant) waited = fate.Answered tenant
fate_of due.AtTheEnd waited = fate.Waits

-- the 64 turns go round: how many come between that of the last tenant and that of a tenant
abbrev pub turns_until : (tenant last : ℕ) → ℕ
turns_until tenant last = (min (tenant + 63) (2 ^ 64 - 1) - min last 63) % 64
