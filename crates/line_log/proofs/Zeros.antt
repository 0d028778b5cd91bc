-- Zeros have no records.
use Rattle.std.proofs.Common.{◌≡◌, ℕ, zero, suc, List, [], replicate, refl}
use Rattle.line_log.specs.Log.{recovered}

-- nothing is recovered of them
pub none_recovered : (size : ℕ) → recovered (replicate size 0) ≡ []
none_recovered zero = refl
none_recovered (suc size) = refl
