-- Why a chain does not take a statement or a setup. Running out of memory says nothing.
use Rattle.std.specs.Prelude.{ℕ, ◌≡◌, ◌⊎◌, List, None}
use Rattle.common_types.specs.declared.read_error.ReadError.{ReadError}
use Rattle.common_types.specs.declared.read_error.ReadError.TheVariants.{Fault, Memory}
use Rattle.statements.specs.Chain.{Continues, Opens}
use Rattle.statements.specs.Due.{Start}
use Rattle.statements.specs.Known.{IsOtherSetup}
use Rattle.statements.specs.Statement.{IsStatement}
use Rattle.statements.specs.Summary.{IsLongPast}
use Rattle.statements.specs.Totals.{IsTooLong}
use Rattle.statements.specs.declared.chain.Chain.{Chain}
use Rattle.statements.specs.declared.chain.ChainFault.{ChainFault}
use Rattle.statements.specs.declared.chain.ChainFault.TheVariants.{Apart, Changed, Long, Statement, Unlike}
use Rattle.statements.specs.declared.due.Due.{Due}
use Rattle.statements.specs.declared.due.Due.TheVariants.{Anything, Ending, Setup}
use Rattle.tenant_core.specs.Closing.{IsPeriod}
use Rattle.tenant_core.specs.PresentSetup.{present_setup}
use Rattle.tenant_core.specs.Reopening.{opening_fault}
use Rattle.tenant_core.specs.State.{opened}
use Rattle.tenant_core.specs.declared.opening.Opening.{Opening}
use Rattle.tenant_core.specs.declared.period.PeriodParts.{PeriodParts}
use Rattle.tenant_core.specs.declared.terms.TenantTerms.{TenantTerms}

-- ---- a statement

-- the fault of a period that does not open with what is due: after a setup it is another one
abbrev pub IsApartFrom : Due → ChainFault → Type 0
IsApartFrom (Setup first) (Unlike line) = Unit {0}
IsApartFrom (Setup first) fault = ⊥
IsApartFrom due (Apart line) = Unit {0}
IsApartFrom due fault = ⊥

-- a good statement of that period is not taken: the period does not open with what is due, or it does, and a sum has no
-- room
abbrev pub IsNotJoined : Chain → PeriodParts → ReadError ChainFault → Type 0
IsNotJoined c p Memory = Unit {0}
IsNotJoined c p (Fault Long) = Opens c.due p × IsTooLong c.totals p
IsNotJoined c p (Fault fault) = ¬ (Opens c.due p) × IsApartFrom c.due fault

-- a text is not good
abbrev pub IsNotGood : ReadError ChainFault → Type 0
IsNotGood Memory = Unit {0}
IsNotGood (Fault (Statement fault)) = Unit {0}
IsNotGood error = ⊥

-- a text is not taken: it is not good, or the period that it states is not taken
abbrev pub IsNotAdded : Chain → List ℕ → ReadError ChainFault → Type 0
IsNotAdded c text Memory = Unit {0}
IsNotAdded c text (Fault (Statement fault)) = Unit {0}
IsNotAdded c text error = (p : PeriodParts) × IsStatement text p × IsPeriod p × IsNotJoined c p error

-- ---- a setup

-- no period begins with the opening
abbrev pub IsUnopened : Opening → ReadError ChainFault → Type 0
IsUnopened o Memory = Unit {0}
IsUnopened o (Fault Changed) = ¬ (opening_fault o ≡ None)
IsUnopened o error = ⊥

-- a setup does not have what a tenant has whose next period opens so, or no period does
abbrev pub IsUnlike : Opening → TenantTerms → Type 0
IsUnlike o t = ¬ (opening_fault o ≡ None) ⊎ IsOtherSetup (present_setup (opened o) t.admin) t

-- a setup does not have what is due of the tenant
abbrev pub IsChanged : Due → TenantTerms → Type 0
IsChanged Anything t = ⊥
IsChanged (Ending o) t = IsUnlike o t
IsChanged (Setup o) t = IsUnlike o t

-- that is not found out
abbrev pub IsNotContinued : Due → TenantTerms → ReadError ChainFault → Type 0
IsNotContinued due t Memory = Unit {0}
IsNotContinued due t (Fault Changed) = IsChanged due t
IsNotContinued due t error = ⊥

-- a setup is not taken: it does not have what is due of the tenant, or it does, and a sum has no room
abbrev pub IsNotBegun : Chain → Start → ReadError ChainFault → Type 0
IsNotBegun c s (Fault Long) = Continues c.due s × IsLongPast c
IsNotBegun c s error = IsNotContinued c.due s.setup error
