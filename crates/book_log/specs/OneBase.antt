-- A base is that of one list of tenants.
use Rattle.std.specs.Prelude.{ℕ, ◌≡◌, true, List}
use Rattle.std.specs.List.{All}
use Rattle.common_types.specs.Token.{is_token}
use Rattle.statements.specs.ReadBack.{AreNumbersWritable, IsOwnWritable, IsPeerWritable, IsRate}
use Rattle.tenant_core.specs.State.{State}
use Rattle.tenant_core.specs.declared.peer.Peer.{Peer}
use Rattle.book_log.specs.Base.{IsBase, admins_of, states_of}
use Rattle.book_log.specs.Written.{AreSecrets, IsTextWritten}
use Rattle.book_log.specs.declared.base.TenantStart.{TenantStart}

-- a peer at the beginning of a period: what its types keep, and a bucket as it is at that clock, before the first entry
pub record IsPeerStart (clock : ℕ) (p : Peer) : Type 0 where
  pub stated : IsPeerWritable p
  pub secrets : AreSecrets p.terms
  pub clock_is : p.bucket.clock ≡ clock
  pub entries : p.bucket.entries ≡ 0

-- a tenant at the beginning of a period: what its types keep, and its peers at its clock
pub record IsStart (s : TenantStart) : Type 0 where
  pub own : IsOwnWritable s.opening
  pub numbers : AreNumbersWritable s.opening
  pub peers : All (IsPeerStart s.opening.clock) s.opening.network.peers
  pub rates : All IsRate s.opening.network.rates
  pub admin : is_token s.admin ≡ true

-- one text has one list of such tenants, and one sum
abbrev pub OneBaseLaw : Type 0
OneBaseLaw = (text : List ℕ) (starts others : List TenantStart) (sum other : List ℕ) → All IsStart starts → All IsStart others
    → IsBase text starts sum → IsBase text others other → (starts ≡ others) × (sum ≡ other)

-- a journal that is written: the base of tenants at the beginning of a period, and a log of their books, which leaves them so
pub record IsJournal (base log : List ℕ) (books : List State) (admins : List (List ℕ)) : Type 0 where
  pub starts : List TenantStart
  pub first : List ℕ
  pub begin : All IsStart starts
  pub based : IsBase base starts first
  pub written : IsTextWritten first log (states_of starts) books
  pub operators : admins ≡ admins_of starts
