-- What a command makes of the entries of a book and of its closed periods.
use Rattle.std.proofs.Common.{◌≡◌, ℕ, ◌+◌, ◌≤◌, [], ◌∷◌, length, Option, Some, None, length-append, arith}
use Rattle.std.specs.Prelude.{Result, Ok, Err}
use Rattle.tenant_core.specs.Governed.{IsGoverned, command_answer, commanded, order_answer, order_left, roll_answer, roll_left}
use Rattle.tenant_core.specs.Limits.{max_journal}
use Rattle.tenant_core.specs.Orders.{ordered, change_record}
use Rattle.tenant_core.specs.Periods.{roll_refusal}
use Rattle.tenant_core.specs.State.{State}
use Rattle.tenant_core.specs.declared.command.Answered.{Answered}
use Rattle.tenant_core.specs.declared.command.Command.{Command}
use Rattle.tenant_core.specs.declared.command.Command.TheVariants as command
use Rattle.tenant_core.specs.declared.faults.CommandFault.{CommandFault}
use Rattle.tenant_core.specs.declared.journal.Change.{Change as Changed}
use Rattle.books_shared.specs.Kept.{most_entries}
use Rattle.books_shared.specs.Rises.{command_rise, entries_closed}

-- the entries that are closed and those of the running period are the old ones and those of the command's rise, and a period
-- more has room for those that are closed
pub record Closes (r : Result Answered CommandFault) (before after : State) : Type 0 where
  pub number : entries_closed r (length before.records) + length after.records ≡ length before.records + (command_rise r).entries
  pub most : length before.records ≤ max_journal
      → most_entries before.opening.period + entries_closed r (length before.records) ≤ most_entries after.opening.period

refused : (s : State) (fault : CommandFault) → Closes (Err fault) s s
refused s fault = record { number = omega arith; most = λ short. omega arith }

closes-order : (s : State) (r : Result Changed CommandFault) (now : ℕ) → Closes (order_answer r) s (order_left s r now)
closes-order s (Ok change) now =
    record { number = omega (arith, length-append s.records (change_record change now ∷ [])); most = λ short. omega arith }
closes-order s (Err fault) now = refused s fault

closes-roll : (s : State) (o : Option CommandFault) (now : ℕ) → Closes (roll_answer s o now) s (roll_left s o now)
closes-roll s None now = record { number = omega arith; most = λ short. omega arith }
closes-roll s (Some fault) now = refused s fault

closes-command : (s : State) (c : Command) (now : ℕ) → Closes (command_answer s c now) s (commanded s c now)
closes-command s (command.Order order) now = closes-order s (ordered s order) now
closes-command s command.Balances now = record { number = omega arith; most = λ short. omega arith }
closes-command s command.Roll now = closes-roll s (roll_refusal s) now

-- whatever a command was answered
pub governed_closes : (r : Result Answered CommandFault) (c : Command) (before after : State) (now : ℕ)
    → IsGoverned r c before after now → Closes r before after
governed_closes (Ok answered) c before after now governed = rw (governed.0, governed.1) (closes-command before c now)
governed_closes (Err fault) c before after now governed = rw governed.1 (refused before fault)
