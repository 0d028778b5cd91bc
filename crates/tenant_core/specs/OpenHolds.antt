-- What each call makes of the holds that await their answers: the laws that those above go by.
use Rattle.std.specs.Prelude.{ℕ, ◌≡◌, Bool, true, false, not, ◌&&◌, ◌||◌, List, is_some, ◌==◌}
use Rattle.tenant_core.specs.Answer.{answered, ticked}
use Rattle.tenant_core.specs.Governed.{commanded}
use Rattle.tenant_core.specs.Holds.{open_hold, next_hold}
use Rattle.tenant_core.specs.Judge.{judge, decided}
use Rattle.tenant_core.specs.Key.{Key}
use Rattle.tenant_core.specs.Sound.{IsSound}
use Rattle.tenant_core.specs.State.{State}
use Rattle.tenant_core.specs.declared.command.Command.{Command}
use Rattle.tenant_core.specs.declared.journal.AnswerKey.{AnswerKey}
use Rattle.tenant_core.specs.declared.verdict.Verdict.{Verdict}
use Rattle.tenant_core.specs.declared.verdict.Verdict.TheVariants.{Forward}

-- the hold of that number awaits its answer
abbrev pub is_awaited : State → ℕ → Bool
is_awaited s n = is_some (open_hold s n)

-- the verdict begins the hold of that number
abbrev pub begins : ℕ → Verdict → Bool
begins n (Forward hold peer amount expiry) = hold == n
begins n _ = false

-- each hold is awaited from the Prepare that begins it to its answer, and no other call ends it
pub record OpenHoldLaws : Type 0 where
  -- a Prepare that goes on begins its hold, and no other
  pub decided : (s : State) (token : List ℕ) (key : Key) (now n : ℕ)
      → is_awaited (decided s token key now) n ≡ (is_awaited s n || begins n (judge s token key now))
  -- its number is the next one, under which no hold awaits its answer
  pub begun : (s : State) (token : List ℕ) (key : Key) (now n : ℕ) → IsSound s
      → begins n (judge s token key now) ≡ true → n ≡ next_hold s
  pub fresh : (s : State) → IsSound s → is_awaited s (next_hold s) ≡ false
  -- an answer ends its hold, and no other
  pub answered : (s : State) (hold now : ℕ) (key : AnswerKey) (n : ℕ)
      → is_awaited (answered s hold now key) n ≡ (is_awaited s n && not (n == hold))
  -- a tick ends none, nor does a command
  pub ticked : (s : State) (now n : ℕ) → is_awaited (ticked s now) n ≡ is_awaited s n
  pub commanded : (s : State) (command : Command) (now n : ℕ) → is_awaited (commanded s command now) n ≡ is_awaited s n
