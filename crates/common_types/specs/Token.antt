-- Tokens that peers and operators show.
use Rattle.std.specs.Prelude.{ℕ, List, length, Bool, ◌&&◌, ◌||◌, ◌==◌, codes}
use Rattle.std.specs.List.{list_all, list_any}
use Rattle.common_types.specs.Numbers.{is_between}

-- letters, digits and `-._~+/=`
abbrev pub is_token_byte : ℕ → Bool
is_token_byte b =
    is_between 65 90 b || is_between 97 122 b || is_between 48 57 b || list_any (λ c. c == b) (codes "-._~+/=")

-- a token is 1 to 64 of these (RFC 6750, "Authorization Request Header Field"; here `=` may come anywhere)
abbrev pub is_token : List ℕ → Bool
is_token bytes = is_between 1 64 (length bytes) && list_all is_token_byte bytes
