-- What each call leaves as it was: whose book it is. And which answers settle a packet.
use Rattle.std.specs.Prelude.{ℕ, ◌≡◌, List, is_ok}
use Rattle.tenant_core.specs.Answer.{answer_to, answered, ticked}
use Rattle.tenant_core.specs.Governed.{commanded}
use Rattle.tenant_core.specs.Judge.{decided}
use Rattle.tenant_core.specs.Key.{Key}
use Rattle.tenant_core.specs.OpenHolds.{is_awaited}
use Rattle.tenant_core.specs.State.{State}
use Rattle.tenant_core.specs.declared.command.Command.{Command}
use Rattle.tenant_core.specs.declared.journal.AnswerKey.{AnswerKey}

-- both are states of one tenant: it has its number, its name and its address
pub record IsSameTenant (before after : State) : Type 0 where
  pub number : after.opening.tenant ≡ before.opening.tenant
  pub name : after.opening.name ≡ before.opening.name
  pub address : after.opening.address ≡ before.opening.address

-- what no call changes, and what answers settle
pub record CallLaws : Type 0 where
  -- the tenant stays who it is
  pub same_decided : (s : State) (token : List ℕ) (key : Key) (now : ℕ) → IsSameTenant s (decided s token key now)
  pub same_answered : (s : State) (hold now : ℕ) (key : AnswerKey) → IsSameTenant s (answered s hold now key)
  pub same_ticked : (s : State) (now : ℕ) → IsSameTenant s (ticked s now)
  pub same_commanded : (s : State) (command : Command) (now : ℕ) → IsSameTenant s (commanded s command now)
  -- an answer to a hold that is awaited settles it, and no other does
  pub settled : (s : State) (hold now : ℕ) (key : AnswerKey) → is_ok (answer_to s hold now key) ≡ is_awaited s hold
