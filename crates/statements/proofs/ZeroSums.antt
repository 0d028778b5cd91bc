-- A sum of 0 more.
use Rattle.std.proofs.Common.{◌≡◌, ℕ, zero, suc, List, [], ◌∷◌, ◌++◌, refl}
use Rattle.std.specs.Prelude.{slice_index}

pub zero_more : (xs : List ℕ) (n : ℕ) → slice_index (xs ++ 0 ∷ []) n ≡ slice_index xs n
zero_more [] zero = refl
zero_more [] (suc n) = refl
zero_more (x ∷ xs) zero = refl
zero_more (x ∷ xs) (suc n) = zero_more xs n
