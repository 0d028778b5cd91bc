-- By how much a call raises the counts of a worker and the number of a book.
use Rattle.std.specs.Prelude.{ℕ, ◌+◌, ◌≤◌, Option, Some, None, Result, Ok, Err, ◌==◌, if◌then◌else◌}
use Rattle.tenant_core.specs.declared.command.Answered.{Answered}
use Rattle.tenant_core.specs.declared.command.Answered.TheVariants.{Done, Balances, Rolled}
use Rattle.tenant_core.specs.declared.faults.BookFault.{BookFault}
use Rattle.tenant_core.specs.declared.faults.CommandFault.{CommandFault}
use Rattle.tenant_core.specs.declared.journal.Record.{Record}
use Rattle.floor_core.specs.Work.{Called}
use Rattle.floor_core.specs.declared.parts.Turn.{Turn}
use Rattle.floor_core.specs.declared.parts.Turn.TheVariants.{Stranger, Reply}
use Rattle.books_shared.specs.declared.rise.CallCounts.{CallCounts}

-- nothing
abbrev pub nothing : CallCounts
nothing = record { entries = 0; strangers = 0; full = 0 }

-- one entry
abbrev pub an_entry : CallCounts
an_entry = record { entries = 1; strangers = 0; full = 0 }

-- no part is over 1
pub record IsSmall (rise : CallCounts) : Type 0 where
  pub entries : rise.entries ≤ 1
  pub strangers : rise.strangers ≤ 1
  pub full : rise.full ≤ 1

-- ---- a decide, and an answer

-- how many entries a record is that was made, if one was
abbrev pub entries_of : Option Record → ℕ
entries_of None = 0
entries_of (Some r) = 1

-- the rise of a turn with so many entries: an unknown token counts as a stranger, and a reply without an entry counts
-- as a packet that found the journal full
abbrev pub rise_of_turn : Turn → ℕ → CallCounts
rise_of_turn Stranger entries = record { entries = entries; strangers = 1; full = 0 }
rise_of_turn Reply entries = record { entries = entries; strangers = 0; full = if entries == 0 then 1 else 0 }
rise_of_turn _ entries = record { entries = entries; strangers = 0; full = 0 }

-- the rise that a call of a slot brings
abbrev pub rise_of : Called → CallCounts
rise_of c = rise_of_turn c.turn (entries_of c.made)

-- ---- other calls

-- the rise that a tick brings: an entry unless it is refused
abbrev pub tick_rise : Result ℕ BookFault → CallCounts
tick_rise (Ok count) = an_entry
tick_rise (Err fault) = nothing

-- the rise of a command: an entry if it was done, also for a roll
abbrev pub command_rise : Result Answered CommandFault → CallCounts
command_rise (Ok Done) = an_entry
command_rise (Ok (Balances rows)) = nothing
command_rise (Ok (Rolled period)) = an_entry
command_rise (Err fault) = nothing

-- how many entries a command closed, if the period had so many before it: a roll closes these and its own, others
-- close none
abbrev pub entries_closed : Result Answered CommandFault → ℕ → ℕ
entries_closed (Ok (Rolled period)) entries = entries + 1
entries_closed _ entries = 0
