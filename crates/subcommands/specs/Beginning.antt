-- What a service begins with, without a journal and with one.
use Rattle.std.specs.Prelude.{ℕ, ◌≡◌, ◌≤◌, List, length, map, max, IfSome, Some}
use Rattle.admin_text.specs.declared.setup.Setup.{Setup}
use Rattle.book_journal.specs.Writer.{WriterState}
use Rattle.book_log.specs.Base.{AreReopened}
use Rattle.book_log.specs.declared.base.TenantStart.{TenantStart}
use Rattle.book_recovery.specs.Recovery.{all_given_up}
use Rattle.books_shared.specs.Begun.{AreNumbered}
use Rattle.books_shared.specs.Traced.{openings_of}
use Rattle.line_log.specs.Log.{lines, recovered}
use Rattle.journal_shared.specs.Kept.{BeginsLog, IsNewLog}
use Rattle.log_folder.specs.Disk.{disk_may_leave, disk_seen}
use Rattle.tenant_core.specs.Limits.{max_tenants}
use Rattle.tenant_core.specs.Periods.{next_opening}
use Rattle.tenant_core.specs.PresentSetup.{present_setup}
use Rattle.tenant_core.specs.State.{State, clock_of, opened}
use Rattle.tenant_core.specs.declared.opening.Opening.{Opening}
use Rattle.tenant_core.specs.declared.terms.TenantTerms.{TenantTerms}
use Rattle.subcommands.specs.Journalling.{AreStartsOf}
use Rattle.subcommands.specs.declared.beginning.Beginning.{Beginning}

-- a service can begin so: with 1 to 64 tenants, and an opening of each at its place
pub record IsFit (begun : Beginning) : Type 0 where
  pub some : 1 ≤ length begun.setup.tenants
  pub few : length begun.setup.tenants ≤ max_tenants
  pub each : length begun.openings.items ≡ length begun.setup.tenants
  pub numbered : AreNumbered begun.openings.items

-- A service begins with a setup: with its tenants, and the first period of each. If it keeps a journal, that begins with these.
pub record HasBegun (setup : Setup) (begun : Beginning) : Type 0 where
  pub same : begun.setup ≡ setup
  pub first : begun.openings.items ≡ openings_of setup.tenants setup.start
  pub journal : IfSome begun.journal (λ writer.
      (starts : List TenantStart) × AreStartsOf setup starts × IsNewLog disk_seen disk_may_leave starts writer)

-- what a tenant's next period begins with, once what its book holds has no answer, and the period is closed at that moment
abbrev pub opening_after : ℕ → State → Opening
opening_after now s = next_opening (all_given_up now s) (max (clock_of (all_given_up now s)) now)

-- the tenant's setup then
abbrev pub setup_after : TenantStart → TenantTerms
setup_after s = present_setup (opened s.opening) s.admin

-- these tenants, with these setups, follow the books of tenants at that moment
abbrev pub follows : ℕ → List State → List TenantStart → List TenantTerms → Type 0
follows now books starts setups =
    (map (λ (s : TenantStart). s.opening) starts ≡ map (opening_after now) books) × (setups ≡ map setup_after starts)

-- A service goes on: its tenants, with these openings and setups, follow the books of a journal that was read. Its own journal begins
-- with them.
pub record GoesOn (begun : Beginning) : Type 0 where
  pub base : List ℕ
  pub log : List ℕ
  pub books : List State
  pub reopened : AreReopened base (lines (recovered log)) books
  pub starts : List TenantStart
  pub following : follows begun.setup.start books starts begun.setup.tenants
  pub openings : begun.openings.items ≡ map (λ (s : TenantStart). s.opening) starts
  pub writer : WriterState _
  pub journal : begun.journal ≡ Some writer
  pub new : IsNewLog disk_seen disk_may_leave starts writer

-- if a service keeps a journal, that has nothing yet after the base of its tenants, with these openings
abbrev pub HasNewLog : Beginning → Type 0
HasNewLog begun = IfSome begun.journal (BeginsLog disk_seen disk_may_leave begun.openings.items)
