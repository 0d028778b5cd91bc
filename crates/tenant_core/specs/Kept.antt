-- What a book keeps beside its records.
use Rattle.std.specs.Prelude.{◌≡◌, ◌≤◌, ◌+◌, map, length, None}
use Rattle.tenant_core.specs.declared.book.Book.TheInside.{Inside}
use Rattle.tenant_core.specs.Holds.{holds_of}
use Rattle.tenant_core.specs.Present.{network_of}
use Rattle.tenant_core.specs.Reopening.{opening_fault}
use Rattle.tenant_core.specs.Running.{purse_of, AreLevels, IsNamed}
use Rattle.tenant_core.specs.Sound.{IsSound}
use Rattle.tenant_core.specs.State.{State, clock_of}

-- what contracts see of a book
abbrev pub state_of : Inside → State
state_of b = record { opening = b.opening; records = b.journal.records }

-- what holds of the fields of every book
pub record BookInvariant (b : Inside) : Type 0 where
  -- there is room for each entry that the journal may have and for a roll's, and for each hold
  pub room : b.opening.journal + 1 ≤ b.journal.places
  pub holds_room : b.opening.journal ≤ b.holds.room
  pub few : length b.holds.holds ≤ length b.journal.records
  -- the clock, the network and the holds are what the records say
  pub clock : b.clock ≡ clock_of (state_of b)
  pub network : b.network ≡ network_of (state_of b)
  pub holds : b.holds.holds ≡ holds_of (state_of b)
  -- each purse has the balance and the held amounts of the sums over the records, and each bucket has come from its windows
  pub purses : b.purses.items ≡ map (purse_of (state_of b)) (network_of (state_of b)).peers
  pub buckets : AreLevels (state_of b) (network_of (state_of b)).peers b.buckets.items
  pub named : IsNamed (state_of b)
  -- the opening breaks no limit, and the state is within its own
  pub begins : opening_fault b.opening ≡ None
  pub sound : IsSound (state_of b)
