-- The setup of a service as it is now.
use Rattle.std.specs.Prelude.{ℕ, ◌≡◌, List, [], ◌∷◌, length, map, Some, Ok}
use Rattle.std.specs.List.{slice_get}
use Rattle.admin_text.specs.Anew.{anew, AreTenants}
use Rattle.admin_text.specs.Setup.{setup_of}
use Rattle.books_shared.specs.Traced.{IsLedTo}
use Rattle.one_list.specs.declared.run.Run.{Ghosts}
use Rattle.one_list.specs.declared.step.Done.{Done}
use Rattle.tenant_core.specs.PresentSetup.{present_setup}
use Rattle.tenant_core.specs.State.{State}
use Rattle.tenant_core.specs.declared.opening.Opening.{Opening}
use Rattle.tenant_core.specs.declared.terms.TenantTerms.{TenantTerms}
use Rattle.service.specs.Answering.{operator_token}
use Rattle.service.specs.Journal.{IsKeptOf}
use Rattle.service.specs.declared.office.Office.{Office}

-- The setup of a tenant as its book was at some moment, with the token of its operator. All that was done to the book
-- until then leads to it from the opening that the service's setup gives, and is kept.
pub record IsPresent {J : Type 0} {r : Ghosts J} (openings : List Opening) (office : Office J r) (tenant : ℕ) (setup : TenantTerms) : Type 0 where
  pub book : State
  pub steps : List Done
  pub own : book.opening.tenant ≡ tenant
  pub led : IsLedTo openings book steps
  pub kept : IsKeptOf openings office book
  pub told : setup ≡ present_setup book (operator_token office tenant)

-- the setups of all tenants, in their order, each as its book was at some moment
pub record ArePresent {J : Type 0} {r : Ghosts J} (openings : List Opening) (office : Office J r) (setups : List TenantTerms) : Type 0 where
  pub all : length setups ≡ office.books.tenants
  pub each : (tenant : ℕ) (setup : TenantTerms) → slice_get setups tenant ≡ Some setup → IsPresent openings office tenant setup

-- the text of such setups, in which the clocks begin as they did before: it is read as these tenants
pub record IsPresentText {J : Type 0} {r : Ghosts J} (openings : List Opening) (office : Office J r) (text : List ℕ) : Type 0 where
  pub setups : List TenantTerms
  pub present : ArePresent openings office setups
  pub read : AreTenants setups → setup_of text ≡ Ok (record { start = office.start; tenants = map anew setups })

-- the text of the setup of one tenant, as its book was at some moment, in which the clock begins as it did before: it is read as
-- this tenant
pub record IsTenantText {J : Type 0} {r : Ghosts J} (openings : List Opening) (office : Office J r) (tenant : ℕ) (text : List ℕ) : Type 0 where
  pub setup : TenantTerms
  pub present : IsPresent openings office tenant setup
  pub read : AreTenants (setup ∷ []) → setup_of text ≡ Ok (record { start = office.start; tenants = anew setup ∷ [] })
