-- Setups whose tokens are hidden.
use Rattle.std.specs.Prelude.{ℕ, List, [], ◌∷◌, ◌++◌, length, take, codes, ◌==◌, Bool, if◌then◌else◌}
use Rattle.std.specs.List.{flat_map, slice_split}
use Rattle.std.specs.Str.{bytes_eq}
use Rattle.service.specs.Answering.{command_line}

-- the line gives a value to that key
abbrev pub gives : List ℕ → List ℕ → Bool
gives key line = bytes_eq (take (length key) line) key

-- a line of a setup, without the token that it may give
abbrev pub hidden_line : List ℕ → List ℕ
hidden_line line =
    if gives (codes "admin = ") line then codes "admin = \"hidden\""
    else (if gives (codes "token = ") line then codes "token = \"hidden\""
    else (if gives (codes "out_token = ") line then codes "out_token = \"hidden\"" else line))

-- such a line, with its line feed
abbrev pub ended_line : List ℕ → List ℕ
ended_line line = hidden_line line ++ 10 ∷ []

-- a setup as a text, after a line that says that its tokens are hidden
abbrev pub hidden_text : List ℕ → List ℕ
hidden_text setup = codes "# Tokens are hidden.\n" ++ flat_map ended_line (slice_split (λ b. b == 10) (command_line setup))
