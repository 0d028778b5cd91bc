-- What a journal lends, without its address in memory.
use Rattle.std.specs.Prelude.{◌≤◌, length}
use Rattle.ilp_addr.specs.Address.{max_address}
use Rattle.tenant_core.specs.declared.journal.DecideEntry.{DecideEntry}
use Rattle.tenant_core.specs.declared.journal.Entry.{Entry}
use Rattle.tenant_core.specs.declared.journal.Entry.TheVariants as entries
use Rattle.tenant_core.specs.declared.journal.Record.{Record}
use Rattle.tenant_core.specs.declared.record_view.DecideView.{DecideView}
use Rattle.tenant_core.specs.declared.record_view.EntryView.{EntryView}
use Rattle.tenant_core.specs.declared.record_view.EntryView.TheVariants.{Decide, Answer, Tick, Change, Roll}
use Rattle.tenant_core.specs.declared.record_view.RecordView.{RecordView}

-- the Prepare that is lent
abbrev pub decide_of : DecideView → DecideEntry
decide_of v =
    record {
      peer = v.peer;
      amount = v.amount;
      expiry = v.expiry;
      condition = v.condition.now;
      destination = v.destination.now;
      now = v.now;
    }

-- the event that is lent
abbrev pub entry_of : EntryView → Entry
entry_of (Decide v) = entries.Decide (decide_of v)
entry_of (Answer a) = entries.Answer a.now
entry_of (Tick t) = entries.Tick t
entry_of (Change c) = entries.Change c.now
entry_of (Roll r) = entries.Roll r

-- a Prepare's destination is no longer than an address may be
abbrev pub IsShort : EntryView → Type 0
IsShort (Decide v) = length v.destination.now ≤ max_address
IsShort (Answer a) = Unit {0}
IsShort (Tick t) = Unit {0}
IsShort (Change c) = Unit {0}
IsShort (Roll r) = Unit {0}

-- the record that is lent
abbrev pub record_of : RecordView → Record
record_of v = record { entry = entry_of v.entry; outcome = v.outcome }
