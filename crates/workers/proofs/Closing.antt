-- The period that a command has closed.
use Rattle.std.proofs.Common.{◌≡◌, ◌++◌, ℕ, List, Option, Some, None}
use Rattle.std.specs.Prelude.{Result, Ok, Err}
use Rattle.tenant_core.specs.Governed.{IsGoverned, made_by, order_answer, roll_answer, roll_left, roll_made}
use Rattle.tenant_core.specs.Orders.{ordered}
use Rattle.tenant_core.specs.Periods.{roll_refusal}
use Rattle.tenant_core.specs.State.{State}
use Rattle.tenant_core.specs.declared.command.Answered.{Answered}
use Rattle.tenant_core.specs.declared.command.Answered.TheVariants.{Done as Obeyed, Balances, Rolled}
use Rattle.tenant_core.specs.declared.command.Command.{Command}
use Rattle.tenant_core.specs.declared.command.Command.TheVariants as command
use Rattle.tenant_core.specs.declared.faults.CommandFault.{CommandFault}
use Rattle.tenant_core.specs.declared.journal.Change.{Change as Changed}
use Rattle.tenant_core.specs.declared.opening.Opening.{Opening}
use Rattle.tenant_core.specs.declared.period.PeriodParts.{PeriodParts}
use Rattle.one_list.specs.Steps.{done_by, next_place}
use Rattle.one_list.specs.declared.step.Done.{Done}
use Rattle.books_shared.specs.Kept.{LockedBook}
use Rattle.books_shared.specs.Traced.{IsLedTo}
use Rattle.workers.specs.Keeping.{HasClosed, OnRolled}

no_order : (p : PeriodParts) (told : Result Changed CommandFault) → Ok (Rolled p) ≡ order_answer told → ⊥
no_order p (Ok change) is = cc is
no_order p (Err fault) is = cc is

closed_roll : (openings : List Opening) (p : PeriodParts) (before : State) (after : LockedBook) (steps : List Done) (worker now : ℕ) (refusal : Option CommandFault)
    → IsLedTo openings before steps → Ok (Rolled p) ≡ roll_answer before refusal now → after.state ≡ roll_left before refusal now
    → after.steps ≡ steps ++ done_by worker (next_place before) (roll_made refusal now) → HasClosed openings after p
closed_roll openings p before after steps worker now None led told left rolled = record {
  before = before;
  steps = steps;
  led = led;
  now = now;
  closed = cc told;
  left = left;
  worker = worker;
  rolled = rolled;
}
closed_roll openings p before after steps worker now (Some fault) led told left rolled = absurd (cc told)

closed_period : (openings : List Opening) (p : PeriodParts) (c : Command) (before : State) (after : LockedBook) (steps : List Done) (worker now : ℕ)
    → IsLedTo openings before steps → IsGoverned (Ok (Rolled p)) c before after.state now
    → after.steps ≡ steps ++ done_by worker (next_place before) (made_by (Ok (Rolled p)) before c now) → HasClosed openings after p
closed_period openings p (command.Order order) before after steps worker now led told rolled = absurd (no_order p (ordered before order) told.0)
closed_period openings p command.Balances before after steps worker now led told rolled = absurd (cc told.0)
closed_period openings p command.Roll before after steps worker now led told rolled =
    closed_roll openings p before after steps worker now (roll_refusal before) led told.0 told.1 rolled

-- a command closed a period, if it says so
pub closed_by : (openings : List Opening) (told : Result Answered CommandFault) (c : Command) (before : State) (after : LockedBook) (steps : List Done)
    (worker now : ℕ) → IsLedTo openings before steps → IsGoverned told c before after.state now
    → after.steps ≡ steps ++ done_by worker (next_place before) (made_by told before c now) → OnRolled told (λ p. HasClosed openings after p)
closed_by openings (Ok Obeyed) c before after steps worker now led told rolled = tt
closed_by openings (Ok (Balances rows)) c before after steps worker now led told rolled = tt
closed_by openings (Ok (Rolled p)) c before after steps worker now led told rolled =
    closed_period openings p c before after steps worker now led told rolled
closed_by openings (Err fault) c before after steps worker now led told rolled = tt
