-- What calls leave as it was: the laws that those above go by.
use Rattle.std.specs.Prelude.{ℕ, ◌≡◌, List, Err}
use Rattle.tenant_core.specs.Answer.{answered, ticked}
use Rattle.tenant_core.specs.Governed.{command_answer, commanded}
use Rattle.tenant_core.specs.Judge.{decided}
use Rattle.tenant_core.specs.Key.{Key}
use Rattle.tenant_core.specs.Present.{network_of}
use Rattle.tenant_core.specs.State.{State}
use Rattle.tenant_core.specs.declared.command.Command.{Command}
use Rattle.tenant_core.specs.declared.faults.CommandFault.{CommandFault}
use Rattle.tenant_core.specs.declared.journal.AnswerKey.{AnswerKey}

-- only commands change whom the tenant deals with, and how; none changes its number
pub record StayingLaws : Type 0 where
  pub net_decided : (s : State) (token : List ℕ) (key : Key) (now : ℕ) → network_of (decided s token key now) ≡ network_of s
  pub net_answered : (s : State) (hold now : ℕ) (key : AnswerKey) → network_of (answered s hold now key) ≡ network_of s
  pub net_ticked : (s : State) (now : ℕ) → network_of (ticked s now) ≡ network_of s
  pub tenant_commanded : (s : State) (command : Command) (now : ℕ)
      → (commanded s command now).opening.tenant ≡ s.opening.tenant
  -- a command that is refused leaves the state
  pub state_refused : (s : State) (command : Command) (now : ℕ) (fault : CommandFault)
      → command_answer s command now ≡ Err fault → commanded s command now ≡ s
