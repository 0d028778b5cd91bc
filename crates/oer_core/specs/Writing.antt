-- The content of a buffer after a write.
use Rattle.std.specs.Prelude.{◌≡◌, ◌+◌, ℕ, List, ◌++◌, length, take, drop}

-- The old bytes with these in place of as many from the place on.
abbrev pub overwritten : List ℕ → ℕ → List ℕ → List ℕ
overwritten old at bytes = take at old ++ bytes ++ drop (at + length bytes) old

-- The bytes were written into the old buffer at the place, and the place after them is given.
abbrev pub Writes : List ℕ → ℕ → List ℕ → List ℕ → ℕ → Type 0
Writes old at bytes new end = (end ≡ at + length bytes) × (new ≡ overwritten old at bytes)
