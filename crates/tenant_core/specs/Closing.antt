-- What a closed period keeps by its type.
use Rattle.std.specs.Prelude.{ℕ, ◌≡◌, ◌≤◌, ◌+◌, ◌-◌, List, length, take, fold, None}
use Rattle.ilp_addr.specs.Timestamp.{last_moment}
use Rattle.tenant_core.specs.Limits.{max_journal}
use Rattle.tenant_core.specs.Periods.{closed, roll_refusal}
use Rattle.tenant_core.specs.Reopening.{opening_fault}
use Rattle.tenant_core.specs.Replay.{IsReplay}
use Rattle.tenant_core.specs.Sound.{IsSound}
use Rattle.tenant_core.specs.State.{State, entered_at}
use Rattle.tenant_core.specs.declared.journal.Record.{Record}
use Rattle.tenant_core.specs.declared.period.PeriodParts.{PeriodParts}

-- the moment of the last entry
abbrev pub moment_of_last : List Record → ℕ
moment_of_last records = fold (λ n r. entered_at r.entry) 0 records

-- the state that the period ended in: its last record is the roll's
abbrev pub state_at_end : PeriodParts → State
state_at_end p = record { opening = p.opening; records = p.records }

-- the state before the roll
abbrev pub state_before_roll : PeriodParts → State
state_before_roll p = record { opening = p.opening; records = take (length p.records - 1) p.records }

-- the period is what a roll closed
pub record IsPeriod (p : PeriodParts) : Type 0 where
  -- its opening breaks no limit, and each bucket's level was taken as it began
  pub begins : opening_fault p.opening ≡ None
  -- the state before the roll was within its limits, and nothing refused the roll, which came at a moment
  pub sound : IsSound (state_before_roll p)
  pub free : roll_refusal (state_before_roll p) ≡ None
  pub early : moment_of_last p.records ≤ last_moment
  -- its records are those of that state and the roll's, its rows what each peer owed then, its ending the next opening
  pub closed : p ≡ closed (state_before_roll p) (moment_of_last p.records)
  -- each record is what its entry led to, the roll's too
  pub replay : IsReplay (state_at_end p)
  -- a journal has places for all but the roll's
  pub few : length p.records ≤ max_journal + 1
