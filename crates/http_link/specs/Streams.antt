-- What is taken from a reader, and given to a writer.
use Rattle.std.specs.Prelude.{◌≡◌, ◌<◌, ◌≤◌, ◌+◌, ◌-◌, ℕ, List, [], ◌∷◌, ◌++◌, length, take, Option, Some, None, Bool, true}
use Rattle.std.specs.Prelude.{false}
use Rattle.std.specs.Io.KnownBytes.{Appends, Consumes, Keeps, IsAtEnd}

-- a part of the text from its start on was written, if not all of it
abbrev pub AppendsFront : List ℕ → Option (List ℕ) → Option (List ℕ) → Type 0
AppendsFront text old new = (n : ℕ) × Appends old new (take n text)

-- the next byte was taken, or there is none
abbrev pub PullsNext : Option (List ℕ) → Option (List ℕ) → Option ℕ → Type 0
PullsNext old new (Some b) = Consumes old new (b ∷ [])
PullsNext old new None = Consumes old new [] × IsAtEnd new

-- what a read into a buffer from a place on takes, and puts there
abbrev pub ReadsBehind : Option (List ℕ) → Option (List ℕ) → ℕ → ℕ → List ℕ → List ℕ → Option ℕ → Type 0
ReadsBehind old new at limit before after None = Keeps old new × (take at after ≡ take at before)
ReadsBehind old new at limit before after (Some n) =
    (at + n ≤ limit) × (n ≡ 0 → IsAtEnd new)
    × ((taken : List ℕ) × (take (at + n) after ≡ take at before ++ taken) × Consumes old new taken)

-- more bytes were taken, at most as many as are missing, and are in the buffer after those before. If all of them are
-- fewer than needed, no more are left
pub record FillsOn (old new : Option (List ℕ)) (had : List ℕ) (wanted : ℕ) (buffer : List ℕ) (n : ℕ) : Type 0 where
  pub came : List ℕ
  pub grew : take n buffer ≡ had ++ came
  pub taken : Consumes old new came
  pub missing : length came ≤ wanted - length had
  pub bound : n ≤ length buffer
  pub ended : n < wanted → IsAtEnd new

-- nothing is left, or something is
abbrev pub EndsOrNot : Option (List ℕ) → Bool → Type 0
EndsOrNot known true = IsAtEnd known
EndsOrNot None false = Unit {0}
EndsOrNot (Some bytes) false = 0 < length bytes
