-- What is taken from a reader and given to a writer.
use Rattle.std.specs.Prelude.{ℕ, ◌≡◌, ◌≤◌, ◌++◌, List, length, take, Option}
use Rattle.std.specs.Io.KnownBytes.{Appends, Consumes}

-- at most so many bytes were taken
abbrev pub ConsumesAtMost : ℕ → Option (List ℕ) → Option (List ℕ) → Type 0
ConsumesAtMost most old new = (taken : List ℕ) × (length taken ≤ most) × Consumes old new taken

-- a part of the text from its start on was written, if not all of it
abbrev pub AppendsFront : List ℕ → Option (List ℕ) → Option (List ℕ) → Type 0
AppendsFront text old new = (n : ℕ) × Appends old new (take n text)

-- the bytes from the reader are appended to the old text
abbrev pub TakesBehind : Option (List ℕ) → Option (List ℕ) → List ℕ → List ℕ → Type 0
TakesBehind old new text longer = (taken : List ℕ) × Consumes old new taken × (longer ≡ text ++ taken)

-- the text before the rest was written
abbrev pub WritesUpTo : (text rest : List ℕ) → Option (List ℕ) → Option (List ℕ) → Type 0
WritesUpTo text rest old new = (written : List ℕ) × (text ≡ written ++ rest) × Appends old new written
