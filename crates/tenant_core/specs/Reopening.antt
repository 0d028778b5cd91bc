-- Periods that are checked again: which openings one can begin with, and what an entry makes of a state that follows
-- it.
use Rattle.std.specs.Prelude.{ℕ, ◌≡◌, ◌*◌, Bool, true, false, not, ◌&&◌, ◌==◌, nat_le, nat_lt, Option, Some, None, option_map, Result, Ok, Err}
use Rattle.std.specs.Prelude.{if◌then◌else◌}
use Rattle.std.specs.List.{list_all}
use Rattle.common_types.specs.Numbers.{is_between}
use Rattle.ilp_addr.specs.Timestamp.{last_moment}
use Rattle.rate_bucket.specs.Bucket.{full_bucket}
use Rattle.tenant_core.specs.Limits.{max_tenants, max_journal, max_margin, max_hold, max_period}
use Rattle.tenant_core.specs.Network.{Net}
use Rattle.tenant_core.specs.Orders.{names_present, change_of}
use Rattle.tenant_core.specs.Replay.{entry_outcome, outcome_of}
use Rattle.tenant_core.specs.State.{State, opened, recorded}
use Rattle.tenant_core.specs.declared.command.Order.{Order}
use Rattle.tenant_core.specs.declared.faults.OpeningFault.{OpeningFault}
use Rattle.tenant_core.specs.declared.faults.OpeningFault.TheVariants.{Tenant, Journal, Margin, Hold, Period, Clock, Number, Bucket}
use Rattle.tenant_core.specs.declared.journal.Change.{Change as Changed}
use Rattle.tenant_core.specs.declared.journal.Entry.{Entry}
use Rattle.tenant_core.specs.declared.journal.Entry.TheVariants.{Roll}
use Rattle.tenant_core.specs.declared.journal.Outcome.{Outcome}
use Rattle.tenant_core.specs.declared.opening.Opening.{Opening}
use Rattle.tenant_core.specs.declared.peer.Peer.{Peer}

-- the bucket's level was taken at that clock, as a period began
abbrev pub is_fresh : ℕ → Peer → Bool
is_fresh clock p =
    (p.bucket.clock == clock)
    && ((p.bucket.entries == 0) && nat_le p.bucket.credit (full_bucket p.terms.bucket.burst))

-- the first limit that an opening breaks
abbrev pub opening_fault : Opening → Option OpeningFault
opening_fault o =
    if nat_le max_tenants o.tenant then Some Tenant
    else (if not (is_between 2 max_journal o.journal) then Some Journal
    else (if nat_lt max_margin o.margin then Some Margin
    else (if not (is_between 1 max_hold o.hold) then Some Hold
    else (if nat_lt max_period o.period then Some Period
    else (if nat_lt last_moment o.clock then Some Clock
    else (if nat_lt (max_journal * o.period) o.next_hold then Some Number
    else (if not (list_all (is_fresh o.clock) o.network.peers) then Some Bucket else None)))))))

-- the state in which nothing has happened since, unless the opening breaks a limit
abbrev pub opened_unless : Opening → Option OpeningFault → Result State OpeningFault
opened_unless o None = Ok (opened o)
opened_unless o (Some fault) = Err fault

abbrev pub reopened : Opening → Result State OpeningFault
reopened o = opened_unless o (opening_fault o)

-- an order makes that change, or the peers that it names are not there
abbrev pub IsOrderFor : Net → Changed → Option Order → Type 0
IsOrderFor net c None = names_present net c ≡ false
IsOrderFor net c (Some order) = (names_present net c ≡ true) × (change_of net order ≡ Some c)

-- the entry ends its period
abbrev pub is_roll : Entry → Bool
is_roll (Roll r) = true
is_roll _ = false

-- the state after an entry that led to that, if it led to anything
abbrev pub followed : State → Entry → Option Outcome → State
followed s e o = recorded s (option_map (λ x. record { entry = e; outcome = x }) o)

-- an entry led to that, whenever it came, and the state followed it
abbrev pub IsStep : State → State → Entry → Option Outcome → Type 0
IsStep before after e o = (o ≡ entry_outcome before e) × (after ≡ followed before e o)

-- an entry led to that, and the state followed it
abbrev pub IsFollowed : State → State → Entry → Option Outcome → Type 0
IsFollowed before after e o = (o ≡ outcome_of before e) × (after ≡ followed before e o)
