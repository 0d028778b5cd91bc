-- Sums that tell whether a log was changed: the SHA-256 of the sum before and what was written since.
use Rattle.std.specs.Prelude.{◌≡◌, ◌≢◌, ◌⊎◌, ℕ, List, [], ◌∷◌, ◌++◌, length}
use Rattle.sha2.specs.Sha256.{sha256}

-- the sum after these pieces
abbrev pub sum_after : List ℕ → List (List ℕ) → List ℕ
sum_after sum [] = sum
sum_after sum (piece ∷ pieces) = sum_after (sha256 (sum ++ piece)) pieces

-- two texts that differ and have one SHA-256
pub record Collision : Type 0 where
  pub one : List ℕ
  pub other : List ℕ
  pub differ : one ≢ other
  pub same : sha256 one ≡ sha256 other

-- logs of as many pieces with one sum at their end are the same log, piece for piece, or SHA-256 has a collision
abbrev pub SumLaw : Type 0
SumLaw = (sum : List ℕ) (xs ys : List (List ℕ)) → length sum ≡ 32 → length xs ≡ length ys
    → sum_after sum xs ≡ sum_after sum ys → (xs ≡ ys) ⊎ Collision
