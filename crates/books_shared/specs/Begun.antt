-- Books that begin with openings.
use Rattle.std.specs.Prelude.{ℕ, ◌≡◌, List, Some, slice_get}
use Rattle.tenant_core.specs.Reopening.{opening_fault}
use Rattle.tenant_core.specs.declared.opening.Opening.{Opening}
use Rattle.tenant_core.specs.declared.faults.OpeningFault.{OpeningFault}

-- each opening is that of the tenant at its place
abbrev pub AreNumbered : List Opening → Type 0
AreNumbered openings = (i : ℕ) (o : Opening) → slice_get openings i ≡ Some o → o.tenant ≡ i

-- the first limit that one of the openings breaks is this
pub record HasFault (openings : List Opening) (fault : OpeningFault) : Type 0 where
  pub place : ℕ
  pub opening : Opening
  pub its_own : slice_get openings place ≡ Some opening
  pub first : opening_fault opening ≡ Some fault
