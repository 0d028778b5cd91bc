-- What a crash leaves of a log, at whatever moment it comes while steps are done.
use Rattle.std.specs.Prelude.{ℕ, ◌≡◌, ◌⊎◌, List, ◌++◌}
use Rattle.floor_core.specs.World.{World}
use Rattle.line_log.specs.File.{LeavesOnly}
use Rattle.line_log.specs.Log.{IsWithSome, recovered}
use Rattle.replay_text.specs.Recorded.{Recording}
use Rattle.tenant_core.specs.declared.period.PeriodParts.{PeriodParts}

-- Records were added to those of a log. At each moment until they were, a crash leaves those that were there, and the first of
-- these after them.
pub record HasAdded {D : Type 0} (seen : D → List ℕ) (moment : D → ℕ) (left_since : D → ℕ → List ℕ → Type 0) (before after : D) : Type 0 where
  pub more : List (List ℕ)
  pub added : recovered (seen after) ≡ recovered (seen before) ++ more
  pub any_moment : LeavesOnly moment left_since before after (IsWithSome (recovered (seen before)) more)

-- a recorder leaves the file of its log as it is when it takes a period; when it keeps something, it may add records
pub record AddsToLog {D K : Type 0} (seen : D → List ℕ) (moment : D → ℕ) (left_since : D → ℕ → List ℕ → Type 0) (R : Recording K) (file : K → D)
    : Type 0 where
  pub takes : (before : K) (p : PeriodParts) (after : K) → R.takes before p after → file after ≡ file before
  pub keeps : (before : K) (world : World) (after : K) → R.keeps before world after
      → (file after ≡ file before) ⊎ HasAdded seen moment left_since (file before) (file after)
