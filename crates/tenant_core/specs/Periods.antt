-- Periods: why a roll is refused, what it closes, and what the next period begins with.
use Rattle.std.specs.Prelude.{ℕ, ◌≡◌, ◌+◌, [], ◌∷◌, ◌++◌, map, max, nat_lt, nat_le, Option, Some, None, Result, Ok, Err}
use Rattle.std.specs.Prelude.{if◌then◌else◌}
use Rattle.rate_bucket.specs.Bucket.{credit_at}
use Rattle.tenant_core.specs.Bucket.{stretch_of}
use Rattle.tenant_core.specs.Holds.{open_holds, next_hold}
use Rattle.tenant_core.specs.Limits.{max_period}
use Rattle.tenant_core.specs.Network.{Net}
use Rattle.tenant_core.specs.Present.{network_of}
use Rattle.tenant_core.specs.Purse.{balance_of, row_of}
use Rattle.tenant_core.specs.State.{State, opened, clock_of}
use Rattle.tenant_core.specs.declared.faults.CommandFault.{CommandFault}
use Rattle.tenant_core.specs.declared.faults.CommandFault.TheVariants.{InUse, Limit, Memory}
use Rattle.tenant_core.specs.declared.journal.Entry.TheVariants.{Roll}
use Rattle.tenant_core.specs.declared.journal.Outcome.TheVariants.{Rolled}
use Rattle.tenant_core.specs.declared.journal.Record.{Record}
use Rattle.tenant_core.specs.declared.opening.Opening.{Opening}
use Rattle.tenant_core.specs.declared.peer.Peer.{Peer}
use Rattle.tenant_core.specs.declared.period.PeriodParts.{PeriodParts}

-- a roll is refused: a packet awaits its answer, or the period is the last one
abbrev pub roll_refusal : State → Option CommandFault
roll_refusal s =
    if nat_lt 0 (open_holds s) then Some InUse
    else (if nat_le max_period s.opening.period then Some Limit else None)

-- the record of a roll
abbrev pub roll_record : ℕ → Record
roll_record now = record { entry = Roll (record { now = now }); outcome = Rolled }

-- a peer as the next period finds it: with its balance, and the credit of its bucket at that clock
abbrev pub carried : State → ℕ → Peer → Peer
carried s clock p =
    record p {
      balance = balance_of s p.number;
      bucket = record { credit = credit_at (stretch_of s p) clock; clock = clock; entries = 0 };
    }

-- the network as the next period finds it
abbrev pub carried_net : State → ℕ → Net → Net
carried_net s clock net = record net { peers = map (carried s clock) net.peers }

-- what the next period begins with, at that clock
abbrev pub next_opening : State → ℕ → Opening
next_opening s clock =
    record s.opening {
      period = s.opening.period + 1;
      clock = clock;
      next_hold = next_hold s;
      network = carried_net s clock (network_of s);
    }

-- the period that a roll at that moment closes: its entries with that of the roll, what each peer owes, and what the next
-- period begins with
abbrev pub closed : State → ℕ → PeriodParts
closed s now =
    record {
      opening = s.opening;
      records = s.records ++ roll_record now ∷ [];
      rows = map (row_of s) (network_of s).peers;
      ending = next_opening s (max (clock_of s) now);
    }

-- the result of a roll: the closed period and the state after it, or its refusal
abbrev pub IsRolled : Result PeriodParts CommandFault → State → State → ℕ → Type 0
IsRolled (Ok period) before after now =
    (roll_refusal before ≡ None) × (period ≡ closed before now)
    × (after ≡ opened (next_opening before (max (clock_of before) now)))
IsRolled (Err Memory) before after now = (roll_refusal before ≡ None) × (after ≡ before)
IsRolled (Err fault) before after now = (roll_refusal before ≡ Some fault) × (after ≡ before)
