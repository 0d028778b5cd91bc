-- What `verify` says of statements.
use Rattle.std.specs.Prelude.{ℕ, ◌≡◌, List, [], ◌∷◌, ◌++◌, Option, Result, Ok, Some}
use Rattle.std.specs.Io.KnownBytes.{Appends}
use Rattle.std.specs.List.{slice_get}
use Rattle.admin_text.specs.declared.setup.Setup.{Setup}
use Rattle.admin_text.specs.declared.setup.SetupFault.{SetupFault}
use Rattle.statements.specs.Chain.{IsChain, Link}
use Rattle.statements.specs.Chain.Link.{Begun}
use Rattle.statements.specs.Due.{start_at}
use Rattle.statements.specs.Summary.{summary_text}
use Rattle.statements.specs.declared.chain.Chain.{Chain}
use Rattle.tenant_core.specs.declared.terms.TenantTerms.{TenantTerms}

-- the setup is good, and the chain goes on with one of its tenants
pub record GoesOnBy (read : Result Setup SetupFault) (before after : Chain) : Type 0 where
  pub setup : Setup
  pub good : read ≡ Ok setup
  pub place : ℕ
  pub tenant : TenantTerms
  pub there : slice_get setup.tenants place ≡ Some tenant
  pub chain : (links : List Link) → IsChain links before → IsChain (links ++ Begun (start_at place tenant setup.start) ∷ []) after

-- the text is the summary of the chain's statements, whichever statements of it they are
abbrev pub IsSummaryOf : Chain → List ℕ → Type 0
IsSummaryOf chain text = (links : List Link) (is : IsChain links chain) → text ≡ summary_text is.done is.periods

-- such a text was written
abbrev pub TellsSummary : Chain → (old new : Option (List ℕ)) → Type 0
TellsSummary chain old new = (text : List ℕ) × IsSummaryOf chain text × Appends old new text
