-- Records that say what had to come: each has the outcome that its entry leads to in the state before it.
use Rattle.std.specs.Prelude.{ℕ, ◌≡◌, ◌≤◌, Some, None}
use Rattle.ilp_addr.specs.Timestamp.{last_moment}
use Rattle.tenant_core.specs.Periods.{roll_record, roll_refusal}
use Rattle.tenant_core.specs.Replay.{IsReplay, outcome_of}
use Rattle.tenant_core.specs.State.{State, recorded}
use Rattle.tenant_core.specs.declared.journal.Record.{Record}

-- the record has the outcome that its entry leads to in the state
abbrev pub IsMade : State → Record → Type 0
IsMade s r = outcome_of s r.entry ≡ Some r.outcome

-- which records do
pub record MadeLaws : Type 0 where
  -- the last one of a replay, in the state before it
  pub last : (s : State) (r : Record) → IsReplay (recorded s (Some r)) → IsMade s r
  -- a roll's, if nothing refuses the roll
  pub roll : (s : State) (now : ℕ) → roll_refusal s ≡ None → now ≤ last_moment → IsMade s (roll_record now)
