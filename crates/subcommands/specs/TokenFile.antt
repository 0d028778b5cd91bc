-- The file of a token.
use Rattle.std.specs.Prelude.{ℕ, List, Option, Some, None, if◌then◌else◌}
use Rattle.common_types.specs.Token.{is_token}
use Rattle.service.specs.Answering.{command_line}

-- the token of a text, which a line feed may end
abbrev pub token_in_file : List ℕ → Option (List ℕ)
token_in_file text = if is_token (command_line text) then Some (command_line text) else None
