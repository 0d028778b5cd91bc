-- What a book always keeps of its state.
use Rattle.std.specs.Prelude.{ℕ, ◌<◌, ◌≤◌, ◌+◌, ◌*◌, length}
use Rattle.ilp_addr.specs.Timestamp.{last_moment}
use Rattle.tenant_core.specs.Called.{AreCalled}
use Rattle.tenant_core.specs.Holds.{holds_of, open_holds, AreNumbered}
use Rattle.tenant_core.specs.Limits.{max_tenants, max_journal, max_margin, max_hold, max_period}
use Rattle.tenant_core.specs.Network.{IsNetwork}
use Rattle.tenant_core.specs.Purse.{IsWithinBounds}
use Rattle.tenant_core.specs.Replay.{IsReplay}
use Rattle.tenant_core.specs.Present.{network_of}
use Rattle.tenant_core.specs.State.{State, clock_of}

-- the limits of a tenant's state
pub record IsSound (s : State) : Type 0 where
  -- each record is what its entry led to
  pub replay : IsReplay s
  -- and what a call made
  pub calls : AreCalled s
  -- the tenant is one of 64
  pub tenant : s.opening.tenant < max_tenants
  -- whom it names, and by what
  pub network : IsNetwork (network_of s)
  -- the entries and the answers that may still come fit the journal, which is short
  pub room : length s.records + open_holds s ≤ s.opening.journal
  pub journal : s.opening.journal ≤ max_journal
  pub places : 2 ≤ s.opening.journal
  -- holds are numbered one after the other
  pub numbers : AreNumbered s.opening.next_hold (holds_of s)
  -- no purse leaves its bounds, whatever becomes of what is held
  pub purses : (peer : ℕ) → IsWithinBounds s peer
  -- a packet is held for ten minutes at most
  pub hold : s.opening.hold ≤ max_hold
  pub some_hold : 1 ≤ s.opening.hold
  -- an expiry is moved earlier by a minute at most
  pub margin : s.opening.margin ≤ max_margin
  -- no period had more holds than a journal has places
  pub first_hold : s.opening.next_hold ≤ max_journal * s.opening.period
  pub period : s.opening.period ≤ max_period
  -- the clock is a moment
  pub clock : clock_of s ≤ last_moment
