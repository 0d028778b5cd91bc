-- A file whose end is overwritten by zeros.
use Rattle.std.specs.Prelude.{ℕ, ◌-◌, List, ◌++◌, length, take, replicate}

-- the file with zeros from that offset on
abbrev pub blanked : ℕ → List ℕ → List ℕ
blanked from file = take from file ++ replicate (length file - from) 0
