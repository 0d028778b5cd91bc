-- What holds of a tenant's calls from its opening on: a call that was sent on has a hold of its own.
use Rattle.std.specs.Prelude.{ℕ, ◌≡◌, Some, true}
use Rattle.tenant_core.specs.OpenHolds.{is_awaited}
use Rattle.floor_core.specs.World.{Stage, Tenant}

-- calls and holds are in step
pub record CallsMatchHolds (s : Tenant) : Type 0 where
  -- the hold of a call that was sent on awaits its answer
  pub waits : (n hold : ℕ) → s.calls n ≡ Some (Stage.Sent hold) → is_awaited s.book hold ≡ true
  -- and is no other call's
  pub apart : (n m hold : ℕ) → s.calls n ≡ Some (Stage.Sent hold) → s.calls m ≡ Some (Stage.Sent hold) → n ≡ m
