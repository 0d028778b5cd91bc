-- Sums for the numbers of peers.
use Rattle.std.specs.Prelude.{ℕ, ◌≡◌, ◌≤◌, ◌+◌, ◌^◌, ◌==◌, ◌&&◌, Option, Some, None, Result, Err, slice_index, if◌then◌else◌}
use Rattle.common_types.specs.declared.read_error.ReadError.{ReadError}
use Rattle.common_types.specs.declared.read_error.ReadError.TheVariants as read_error
use Rattle.statements.specs.declared.tally.Long.{Long}
use Rattle.statements.specs.declared.tally.Tally.{Tally}
use Rattle.statements.specs.declared.counting.OfHold.{OfHold}
use Rattle.statements.specs.declared.counting.OfHold.TheVariants as of_hold
use Rattle.statements.specs.declared.counting.OfRecord.{OfRecord}
use Rattle.statements.specs.declared.counting.OfRecord.TheVariants as of_record
use Rattle.tenant_core.specs.Holds.{took_amounts}
use Rattle.tenant_core.specs.Purse.{paid_on, settled_in, settled_out, taken_for, taken_from}
use Rattle.tenant_core.specs.State.{is_of}
use Rattle.tenant_core.specs.declared.command.Side.TheVariants.{In, Out}
use Rattle.tenant_core.specs.declared.hold.Hold.{Hold}
use Rattle.tenant_core.specs.declared.journal.Change.{Change as Changed}
use Rattle.tenant_core.specs.declared.journal.Record.{Record}

-- the sum for the peer of that number
abbrev pub sum_at : Tally → ℕ → ℕ
sum_at t n = slice_index t.sums.items n

-- how much is counted for the peer of that number
abbrev pub counted_for : Option (ℕ × ℕ) → ℕ → ℕ
counted_for None n = 0
counted_for (Some counted) n = if counted.0 == n then counted.1 else 0

-- so much was added to the sums
abbrev pub IsAdded : Tally → Tally → (ℕ → ℕ) → Type 0
IsAdded before after more = (n : ℕ) → sum_at after n ≡ sum_at before n + more n

-- so much more has no room in the sum of a peer
abbrev pub IsOver : Tally → (ℕ → ℕ) → Type 0
IsOver before more = (n : ℕ) × (2 ^ 128 ≤ sum_at before n + more n)

-- the fact holds if something had no room
abbrev pub OnLong : {X : Type 0} → Result X (ReadError Long) → Type 0 → Type 0
OnLong (Err (read_error.Fault long)) fact = fact
OnLong _ fact = Unit {0}

-- a record says that a packet came from the peer of that number
abbrev pub came_by : ℕ → Record → ℕ
came_by n r = if is_of n r.entry then 1 else 0

-- a packet went on to the peer of that number
abbrev pub went_by : ℕ → Hold → ℕ
went_by n h = if h.to == n then 1 else 0

-- the fee of a packet that went on to the peer of that number, fulfilled
abbrev pub fee_by : ℕ → Hold × ℕ → ℕ
fee_by n kept = if took_amounts kept.0.fate && (kept.0.to == n) then kept.1 else 0

-- what a change counts for a peer: what it paid or was paid
abbrev pub by_change : OfRecord → ℕ → Changed → ℕ
by_change of_record.Came n c = 0
by_change of_record.Paid n c = paid_on In n c
by_change of_record.WasPaid n c = paid_on Out n c

-- what a record counts for a peer: a packet that came from it, or what it paid or was paid
abbrev pub by_record : OfRecord → ℕ → Record → ℕ
by_record of_record.Came n r = came_by n r
by_record of_record.Paid n r = settled_in n r
by_record of_record.WasPaid n r = settled_out n r

-- what a packet that went on counts for a peer: one that went to it, or, once fulfilled, the amount from it or the
-- price for it
abbrev pub by_hold : OfHold → ℕ → Hold → ℕ
by_hold of_hold.Went n h = went_by n h
by_hold of_hold.Brought n h = taken_from n h
by_hold of_hold.CameTo n h = taken_for n h
