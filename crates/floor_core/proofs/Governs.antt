-- A command that is refused for anything but want of memory is answered with its fault.
use Rattle.std.proofs.Common.{◌≡◌, ◌≢◌, ℕ, sym, ap, ◌∙◌}
use Rattle.std.specs.Prelude.{Result, Ok, Err}
use Rattle.tenant_core.specs.Governed.{command_answer, commanded, IsRefusal}
use Rattle.tenant_core.specs.State.{State}
use Rattle.tenant_core.specs.Staying.{StayingLaws}
use Rattle.tenant_core.specs.declared.command.Answered.{Answered}
use Rattle.tenant_core.specs.declared.command.Command.{Command}
use Rattle.tenant_core.specs.declared.faults.CommandFault.{CommandFault}
use Rattle.tenant_core.specs.declared.faults.CommandFault.TheVariants.{Memory}

refused_for : (fault : CommandFault) (r : Result Answered CommandFault) → fault ≢ Memory → IsRefusal fault r → r ≡ Err fault
refused_for fault (Ok answered) ne h = absurd (ne h)
refused_for fault (Err other) ne h = ap (λ (x : CommandFault). Err x) (sym h)

pub record Refused (fault : CommandFault) (command : Command) (s t : State) (now : ℕ) : Type 0 where
  pub answer : command_answer s command now ≡ Err fault
  pub book : t ≡ commanded s command now

pub refused : StayingLaws → (fault : CommandFault) (command : Command) (s t : State) (now : ℕ) → fault ≢ Memory → IsRefusal fault (command_answer s command now) → t ≡ s → Refused fault command s t now
refused laws fault command s t now ne h same =
    let e = refused_for fault (command_answer s command now) ne h in
    record { answer = e; book = same ∙ sym (laws.state_refused s command now fault e) }
