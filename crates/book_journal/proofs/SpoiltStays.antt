-- What is noted leaves a journal spoilt or not.
use Rattle.std.proofs.Common.{◌≡◌, List, [], ◌∷◌, refl}
use Rattle.std.specs.Prelude.{fold}
use Rattle.book_journal.specs.Written.{Written, noted}
use Rattle.tenant_core.specs.State.{State}

pub noted_spoilt : {D : Type 0} (books : List State) (j : Written D) → (fold noted j books).spoilt ≡ j.spoilt
noted_spoilt [] j = refl
noted_spoilt (b ∷ books) j = noted_spoilt books (noted j b)
