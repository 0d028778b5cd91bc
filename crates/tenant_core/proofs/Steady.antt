-- What each call leaves as it was.
use Rattle.std.proofs.Common.{◌≡◌, ℕ, refl, max}
use Rattle.std.specs.Prelude.{Option, Some, None, Result, Ok, Err, is_ok, is_some}
use Rattle.tenant_core.specs.Answer.{settled}
use Rattle.tenant_core.specs.Calls.{IsSameTenant, CallLaws}
use Rattle.tenant_core.specs.Governed.{commanded, order_left, roll_left}
use Rattle.tenant_core.specs.Holds.{open_hold}
use Rattle.tenant_core.specs.Orders.{ordered}
use Rattle.tenant_core.specs.Periods.{roll_refusal}
use Rattle.tenant_core.specs.State.{State, clock_of}
use Rattle.tenant_core.specs.declared.command.Command.{Command}
use Rattle.tenant_core.specs.declared.command.Command.TheVariants as command
use Rattle.tenant_core.specs.declared.faults.CommandFault.{CommandFault}
use Rattle.tenant_core.specs.declared.hold.Hold.{Hold}
use Rattle.tenant_core.specs.declared.journal.AnswerKey.{AnswerKey}
use Rattle.tenant_core.specs.declared.journal.Change.{Change as Changed}

-- ---- who the tenant is

same : (s : State) → IsSameTenant s s
same s = record { number = refl; name = refl; address = refl }

ordered_same : (s : State) (r : Result Changed CommandFault) (now : ℕ) → IsSameTenant s (order_left s r now)
ordered_same s (Ok change) now = record { number = refl; name = refl; address = refl }
ordered_same s (Err fault) now = same s

rolled_same : (s : State) (r : Option CommandFault) (now : ℕ) → IsSameTenant s (roll_left s r now)
rolled_same s None now = record { number = refl; name = refl; address = refl }
rolled_same s (Some fault) now = same s

commanded_same : (s : State) (c : Command) (now : ℕ) → IsSameTenant s (commanded s c now)
commanded_same s (command.Order order) now = ordered_same s (ordered s order) now
commanded_same s command.Balances now = same s
commanded_same s command.Roll now = rolled_same s (roll_refusal s) now

-- ---- answers

settled_where : (o : Option Hold) (clock : ℕ) (k : AnswerKey) → is_ok (settled o clock k) ≡ is_some o
settled_where None clock k = refl
settled_where (Some h) clock k = refl

pub call_laws : CallLaws
call_laws =
    record {
      same_decided = λ s token key now. record { number = refl; name = refl; address = refl };
      same_answered = λ s hold now key. record { number = refl; name = refl; address = refl };
      same_ticked = λ s now. record { number = refl; name = refl; address = refl };
      same_commanded = commanded_same;
      settled = λ s hold now key. settled_where (open_hold s hold) (max (clock_of s) now) key;
    }
