-- The content of a buffer after a write.
use Rattle.std.specs.Prelude.{ℕ, List, ◌++◌, length, take, drop}

-- the bytes that were written, as far as they fit, and the old ones after them
abbrev pub refilled : List ℕ → List ℕ → List ℕ
refilled old bytes = take (length old) (bytes ++ drop (length bytes) old)
