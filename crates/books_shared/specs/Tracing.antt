-- The steps that a call adds to the one list, by what the call left.
use Rattle.std.specs.Prelude.{ℕ, zero, suc, ◌<◌, nat_lt, List, [], length, Option, None, Result, Ok, if◌then◌else◌}
use Rattle.tenant_core.specs.Journals.{last_of}
use Rattle.tenant_core.specs.State.{State}
use Rattle.tenant_core.specs.declared.command.Answered.{Answered}
use Rattle.tenant_core.specs.declared.command.Answered.TheVariants.{Done, Rolled}
use Rattle.tenant_core.specs.declared.faults.CommandFault.{CommandFault}
use Rattle.tenant_core.specs.declared.journal.Record.{Record}
use Rattle.one_list.specs.Steps.{done_last}
use Rattle.one_list.specs.declared.step.Done.{Done as Step}

-- the steps of a call that appended so many entries, by the period's records after it: of the last one, if it appended
-- any
abbrev pub steps_appended : ℕ → (worker tenant period : ℕ) → List Record → List Step
steps_appended zero worker tenant period records = []
steps_appended (suc n) worker tenant period records = done_last worker tenant period records

-- the steps of a command with that answer, by the state after it: of the change's record, or of the closed period's
-- last one
abbrev pub steps_of_command : Result Answered CommandFault → (worker tenant : ℕ) → State → List Step
steps_of_command (Ok Done) worker tenant s = done_last worker tenant s.opening.period s.records
steps_of_command (Ok (Rolled period)) worker tenant s = done_last worker tenant period.opening.period period.records
steps_of_command _ worker tenant s = []

-- there is such a record, if an entry was appended
abbrev pub HasAppended : Result Answered CommandFault → State → Type 0
HasAppended (Ok Done) s = 0 < length s.records
HasAppended (Ok (Rolled period)) s = 0 < length period.records
HasAppended _ s = Unit {0}

-- the last record, if there are more than so many
abbrev pub last_beyond : ℕ → List Record → Option Record
last_beyond before records = if nat_lt before (length records) then last_of records else None
