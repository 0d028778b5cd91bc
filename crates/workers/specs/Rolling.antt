-- A period that is closed once it is ripe, and not by an operator's command.
use Rattle.std.specs.Prelude.{ℕ, ◌≡◌, ◌+◌, ◌*◌, ◌==◌, ◌&&◌, ◌||◌, Bool, true, false, nat_lt, nat_le, length, Option, Some, None, Result, Ok, Err}
use Rattle.tenant_core.specs.Holds.{open_holds}
use Rattle.tenant_core.specs.State.{State}
use Rattle.tenant_core.specs.declared.command.Answered.{Answered}
use Rattle.tenant_core.specs.declared.command.Command.TheVariants.{Roll}
use Rattle.tenant_core.specs.declared.faults.CommandFault.{CommandFault}
use Rattle.workers.specs.Carrying.{Circumstances, Found, Growth, HasMet, HasOwnSteps, IsOf, IsSame, WasCommanded}
use Rattle.workers.specs.Keeping.{place_after}
use Rattle.workers.specs.declared.governing.GovernFault.{GovernFault}
use Rattle.workers.specs.declared.governing.GovernFault.TheVariants.{Spent, Memory, NoRoom, Stray, Unkept, Refused}

-- A period is ripe if no packet awaits its answer, and so many hundredths of its entries are there, or no room for another
-- packet and its answer.
abbrev pub is_ripe : ℕ → State → Bool
is_ripe percent s =
    open_holds s == 0
    && (nat_lt s.opening.journal (length s.records + 2) || nat_le (percent * s.opening.journal) (100 * length s.records))

-- the tenant's period goes on, since it is not ripe; the share has met the steps that led to the book, and nothing else
pub record WasUnripe (under : Circumstances) (percent : ℕ) (g : Growth) : Type 0 where
  pub found : Found under
  pub own : IsOf g.owner found
  pub mine : HasOwnSteps g found
  pub unripe : is_ripe percent found.book ≡ false
  pub none : HasMet found g

-- the tenant's period was ripe, and its book got the command to roll
pub record WasRipe (under : Circumstances) (percent : ℕ) (g : Growth) (answer : Result Answered CommandFault) : Type 0 where
  pub rolled : WasCommanded under g Roll answer
  pub ripe : is_ripe percent rolled.found.book ≡ true

-- all that was done to the tenant's book until then is kept, by the roll too
pub record WasRolled (under : Circumstances) (percent : ℕ) (g : Growth) (answer : Result Answered CommandFault) : Type 0 where
  pub ripe : WasRipe under percent g answer
  pub kept : under.Keeps (place_after ripe.rolled.after)

-- it is not known whether the roll is kept
pub record WasRolledUntold (under : Circumstances) (percent : ℕ) (g : Growth) : Type 0 where
  pub answer : Result Answered CommandFault
  pub ripe : WasRipe under percent g answer
  pub failed : under.Fails

-- the result of a look at a tenant's period, which is closed if it is ripe: `Stray` is never answered
abbrev pub IsRolledRipe : (under : Circumstances) → ℕ → Result (Option Answered) GovernFault → Growth → Type 0
IsRolledRipe under percent (Ok None) g = WasUnripe under percent g
IsRolledRipe under percent (Ok (Some answered)) g = WasRolled under percent g (Ok answered)
IsRolledRipe under percent (Err Spent) g = IsSame g
IsRolledRipe under percent (Err Memory) g = IsSame g
IsRolledRipe under percent (Err NoRoom) g = under.Fails × IsSame g
IsRolledRipe under percent (Err Stray) g = ⊥
IsRolledRipe under percent (Err Unkept) g = WasRolledUntold under percent g
IsRolledRipe under percent (Err (Refused fault)) g = WasRolled under percent g (Err fault)
