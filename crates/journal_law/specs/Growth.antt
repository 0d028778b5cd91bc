-- How the book of a tenant goes on: it gets records, or a roll closes its period.
use Rattle.std.specs.Prelude.{ℕ, ◌≡◌, ◌⊎◌, Bool, true, false, List, [], ◌∷◌, ◌++◌, max}
use Rattle.std.specs.List.{AllByRecursion}
use Rattle.floor_core.specs.World.{Effect}
use Rattle.floor_core.specs.declared.step.Output.{Output}
use Rattle.replay_text.specs.Closed.{closed_in}
use Rattle.tenant_core.specs.Periods.{closed, next_opening}
use Rattle.tenant_core.specs.State.{State, opened, clock_of}
use Rattle.tenant_core.specs.declared.journal.Entry.{Entry}
use Rattle.tenant_core.specs.declared.journal.Entry.TheVariants.{Roll}
use Rattle.tenant_core.specs.declared.journal.Record.{Record}
use Rattle.tenant_core.specs.declared.period.PeriodParts.{PeriodParts}

-- the entry is a roll's
abbrev pub is_roll : Entry → Bool
is_roll (Roll r) = true
is_roll _ = false

-- the book got these records in its running period, none of which is a roll's
pub record HasGrown (before : State) (more : List Record) (after : State) : Type 0 where
  pub opening : after.opening ≡ before.opening
  pub records : after.records ≡ before.records ++ more
  pub running : AllByRecursion (λ r. is_roll r.entry ≡ false) more

-- the output closes no period, and the book has at most grown
pub record GoesOn (before : State) (output : Output) (after : State) : Type 0 where
  pub none : closed_in output ≡ []
  pub more : List Record
  pub grown : HasGrown before more after

-- the output is the period that a roll closed at that moment, and the next period begins
pub record RollsAt (now : ℕ) (before : State) (period : PeriodParts) (after : State) : Type 0 where
  pub closed : period ≡ closed before now
  pub next : after ≡ opened (next_opening before (max (clock_of before) now))

pub record Rolls (before : State) (output : Output) (after : State) : Type 0 where
  pub period : PeriodParts
  pub one : closed_in output ≡ period ∷ []
  pub now : ℕ
  pub rolled : RollsAt now before period after

-- the effect of an event on a book: it goes on, or is rolled
abbrev pub GoesOnOrRolls : State → Effect → Type 0
GoesOnOrRolls before effect = GoesOn before effect.output effect.after.book ⊎ Rolls before effect.output effect.after.book
