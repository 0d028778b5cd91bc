-- Commands of an operator: the answer to each, and the state after it.
use Rattle.std.specs.Prelude.{ℕ, ◌≡◌, map, max, Option, Some, None, Result, Ok, Err}
use Rattle.tenant_core.specs.Orders.{ordered, change_record}
use Rattle.tenant_core.specs.Periods.{roll_refusal, roll_record, closed, next_opening}
use Rattle.tenant_core.specs.Present.{network_of}
use Rattle.tenant_core.specs.Purse.{row_of}
use Rattle.tenant_core.specs.State.{State, opened, clock_of, recorded}
use Rattle.tenant_core.specs.declared.command.Answered.{Answered}
use Rattle.tenant_core.specs.declared.command.Answered.TheVariants.{Done, Balances, Rolled}
use Rattle.tenant_core.specs.declared.command.Command.{Command}
use Rattle.tenant_core.specs.declared.command.Command.TheVariants as command
use Rattle.tenant_core.specs.declared.faults.CommandFault.{CommandFault}
use Rattle.tenant_core.specs.declared.faults.CommandFault.TheVariants.{Memory}
use Rattle.tenant_core.specs.declared.journal.Change.{Change as Changed}
use Rattle.tenant_core.specs.declared.journal.Record.{Record}

-- the answer to an order: the change that it makes, or why it is refused
abbrev pub order_answer : Result Changed CommandFault → Result Answered CommandFault
order_answer (Ok change) = Ok Done
order_answer (Err fault) = Err fault

-- the state after it
abbrev pub order_left : State → Result Changed CommandFault → ℕ → State
order_left s (Ok change) now = recorded s (Some (change_record change now))
order_left s (Err fault) now = s

-- the record that it makes, if it makes one
abbrev pub order_made : Result Changed CommandFault → ℕ → Option Record
order_made (Ok change) now = Some (change_record change now)
order_made (Err fault) now = None

-- the answer to a roll, by why it is refused
abbrev pub roll_answer : State → Option CommandFault → ℕ → Result Answered CommandFault
roll_answer s None now = Ok (Rolled (closed s now))
roll_answer s (Some fault) now = Err fault

-- the state after it
abbrev pub roll_left : State → Option CommandFault → ℕ → State
roll_left s None now = opened (next_opening s (max (clock_of s) now))
roll_left s (Some fault) now = s

-- the record that it makes, if it makes one: the last of the period that it closes
abbrev pub roll_made : Option CommandFault → ℕ → Option Record
roll_made None now = Some (roll_record now)
roll_made (Some fault) now = None

-- the answer to a command at that moment
abbrev pub command_answer : State → Command → ℕ → Result Answered CommandFault
command_answer s (command.Order order) now = order_answer (ordered s order)
command_answer s command.Balances now = Ok (Balances (map (row_of s) (network_of s).peers))
command_answer s command.Roll now = roll_answer s (roll_refusal s) now

-- the state after it
abbrev pub commanded : State → Command → ℕ → State
commanded s (command.Order order) now = order_left s (ordered s order) now
commanded s command.Balances now = s
commanded s command.Roll now = roll_left s (roll_refusal s) now

-- the record that it makes, if it makes one
abbrev pub command_made : State → Command → ℕ → Option Record
command_made s (command.Order order) now = order_made (ordered s order) now
command_made s command.Balances now = None
command_made s command.Roll now = roll_made (roll_refusal s) now

-- the record of a command with that answer: none if it was refused or out of memory
abbrev pub made_by : Result Answered CommandFault → State → Command → ℕ → Option Record
made_by (Ok answered) s c now = command_made s c now
made_by (Err fault) s c now = None

-- a fault is the one that had to come, or it is out of memory and the command is not refused
abbrev pub IsRefusal : CommandFault → Result Answered CommandFault → Type 0
IsRefusal fault (Ok answered) = fault ≡ Memory
IsRefusal fault (Err named) = fault ≡ named

-- the result of a command: its answer and the state after it, or its refusal and no change
abbrev pub IsGoverned : Result Answered CommandFault → Command → State → State → ℕ → Type 0
IsGoverned (Ok answered) c before after now =
    (Ok answered ≡ command_answer before c now) × (after ≡ commanded before c now)
IsGoverned (Err fault) c before after now = IsRefusal fault (command_answer before c now) × (after ≡ before)
