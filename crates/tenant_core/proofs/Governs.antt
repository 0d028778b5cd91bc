-- What became of an order is what becomes of the command.
use Rattle.std.proofs.Common.{◌≡◌, ℕ, refl}
use Rattle.std.specs.Prelude.{Result, Ok, Err}
use Rattle.tenant_core.specs.Governed.{order_answer, order_left, IsRefusal}
use Rattle.tenant_core.specs.Orders.{IsOrdered}
use Rattle.tenant_core.specs.State.{State}
use Rattle.tenant_core.specs.declared.command.Answered.{Answered}
use Rattle.tenant_core.specs.declared.command.Answered.TheVariants.{Done}
use Rattle.tenant_core.specs.declared.faults.CommandFault.{CommandFault}
use Rattle.tenant_core.specs.declared.faults.CommandFault.TheVariants.{Full, InUse, Present, Absent, Limit, Memory}
use Rattle.tenant_core.specs.declared.journal.Change.{Change as Changed}

abbrev pub good : Result Answered CommandFault
good = Ok Done

pub order_done : (r : Result Changed CommandFault) (s t : State) (now : ℕ) → IsOrdered (Ok tt) r s t now
    → (good ≡ order_answer r) × (t ≡ order_left s r now)
order_done (Ok c) s t now e = (refl, e)
order_done (Err fault) s t now e = absurd e

pub order_refused : (f : CommandFault) (r : Result Changed CommandFault) (s t : State) (now : ℕ) → IsOrdered (Err f) r s t now
    → IsRefusal f (order_answer r) × (t ≡ s)
order_refused f (Err fault) s t now e = by f e
  where
    by : (f : CommandFault) → IsOrdered (Err f) (Err fault) s t now → (f ≡ fault) × (t ≡ s)
    by Full e = e
    by InUse e = e
    by Present e = e
    by Absent e = e
    by Limit e = e
    by Memory e = e
order_refused Full (Ok c) s t now e = absurd e
order_refused InUse (Ok c) s t now e = absurd e
order_refused Present (Ok c) s t now e = absurd e
order_refused Absent (Ok c) s t now e = absurd e
order_refused Limit (Ok c) s t now e = absurd e
order_refused Memory (Ok c) s t now e = (refl, e)
