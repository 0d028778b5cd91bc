-- What a book keeps of a period in which nothing has happened.
use Rattle.std.specs.Prelude.{ℕ, ◌≡◌, ◌+◌, [], map}
use Rattle.tenant_core.specs.Journals.{no_records}
use Rattle.tenant_core.specs.Network.{Net}
use Rattle.tenant_core.specs.Periods.{carried_net}
use Rattle.tenant_core.specs.Purse.{row_of}
use Rattle.tenant_core.specs.Running.{opened_purse, opened_level}
use Rattle.tenant_core.specs.Standing.{state_shown}
use Rattle.tenant_core.specs.declared.fresh.Fresh.{Fresh}
use Rattle.tenant_core.specs.declared.fresh.Next.{Next}
use Rattle.tenant_core.specs.declared.judge.Standing.{Standing}

-- it is of a period that begins with that network, and has room for a journal of so many places
pub record IsFresh (net : Net) (places : ℕ) (f : Fresh) : Type 0 where
  pub network : f.network ≡ net
  pub journal : f.journal ≡ no_records (places + 1)
  pub holds : f.holds ≡ record { holds = []; room = places; awaiting = [] }
  pub purses : f.purses.items ≡ map opened_purse net.peers
  pub buckets : f.buckets.items ≡ map opened_level net.peers

-- it is of the period after what is shown, and the rows are of what is shown
pub record IsNext (t : Standing) (clock : ℕ) (n : Next) : Type 0 where
  pub network : n.network ≡ carried_net (state_shown t) clock t.network.now
  pub rows : n.rows.items ≡ map (row_of (state_shown t)) t.network.now.peers
  pub fresh : IsFresh n.network t.opening.now.journal n.fresh
