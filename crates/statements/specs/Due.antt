-- The opening that the next period of a chain must have.
use Rattle.std.specs.Prelude.{ℕ, List, [], fold, Option, Some, None}
use Rattle.statements.specs.declared.due.Due.{Due}
use Rattle.statements.specs.declared.due.Due.TheVariants.{Anything, Ending, Setup}
use Rattle.tenant_core.specs.State.{opening_of}
use Rattle.tenant_core.specs.declared.opening.Opening.{Opening}
use Rattle.tenant_core.specs.declared.peer.Peer.{Peer}
use Rattle.tenant_core.specs.declared.period.PeriodParts.{PeriodParts}
use Rattle.tenant_core.specs.declared.terms.TenantTerms.{TenantTerms}

-- a setup that the service began with: the tenant's place among all tenants, what it says of the tenant, and when it starts
pub record Start : Type 0 where
  pub place : ℕ
  pub setup : TenantTerms
  pub clock : ℕ

abbrev pub start_at : ℕ → TenantTerms → ℕ → Start
start_at place setup clock = record { place = place; setup = setup; clock = clock }

-- what is due if the service begins with this start: the opening of the tenant's first period
abbrev pub due_by : Start → Due
due_by s = Setup (opening_of s.place s.setup s.clock)

-- what is due after these periods; the same as before if there are none
abbrev pub due_after : Due → List PeriodParts → Due
due_after due ps = fold (λ before p. Ending p.ending) due ps

-- the opening that is due, if one is
abbrev pub opening_due : Due → Option Opening
opening_due Anything = None
opening_due (Ending o) = Some o
opening_due (Setup o) = Some o

abbrev pub peers_of : Option Opening → List Peer
peers_of None = []
peers_of (Some o) = o.network.peers
