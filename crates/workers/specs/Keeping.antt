-- Where the records of a tenant's journal end, and which period a roll has just closed.
use Rattle.std.specs.Prelude.{ℕ, ◌≡◌, ◌++◌, List, Some, Result, Ok, Err, length, max}
use Rattle.tenant_core.specs.Periods.{closed, next_opening, roll_record}
use Rattle.tenant_core.specs.State.{State, clock_of, opened}
use Rattle.tenant_core.specs.declared.command.Answered.{Answered}
use Rattle.tenant_core.specs.declared.command.Answered.TheVariants.{Done as Obeyed, Balances, Rolled}
use Rattle.tenant_core.specs.declared.faults.CommandFault.{CommandFault}
use Rattle.tenant_core.specs.declared.opening.Opening.{Opening}
use Rattle.tenant_core.specs.declared.period.PeriodParts.{PeriodParts}
use Rattle.one_list.specs.Steps.{done_by, next_place}
use Rattle.one_list.specs.declared.step.Done.{Done}
use Rattle.books_shared.specs.Kept.{LockedBook}
use Rattle.books_shared.specs.Traced.{IsLedTo}
use Rattle.workers.specs.declared.keeping.JournalPlace.{JournalPlace}

-- the place after the last record of a state, in its running period
abbrev pub place_after : State → JournalPlace
place_after s = record { tenant = s.opening.tenant; period = s.opening.period; number = length s.records }

-- A roll has just closed that period of a book. The tenant's steps until then had led to the state in which it was closed, and the
-- roll is the one step after them.
pub record HasClosed (openings : List Opening) (book : LockedBook) (p : PeriodParts) : Type 0 where
  pub before : State
  pub steps : List Done
  pub led : IsLedTo openings before steps
  pub now : ℕ
  pub closed : p ≡ closed before now
  pub left : book.state ≡ opened (next_opening before (max (clock_of before) now))
  pub worker : ℕ
  pub rolled : book.steps ≡ steps ++ done_by worker (next_place before) (Some (roll_record now))

-- that holds of the period that a command closed, if it closed one
abbrev pub OnRolled : Result Answered CommandFault → (PeriodParts → Type 0) → Type 0
OnRolled (Ok (Rolled p)) P = P p
OnRolled (Ok Obeyed) P = Unit {0}
OnRolled (Ok (Balances rows)) P = Unit {0}
OnRolled (Err fault) P = Unit {0}
