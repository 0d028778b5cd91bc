-- Prefixes as operators write them.
use Rattle.std.specs.Prelude.{ℕ, List, [], ◌∷◌, codes, if◌then◌else◌, Option, Some, None}
use Rattle.std.specs.Result.{result_ok}
use Rattle.std.specs.Str.{bytes_eq}
use Rattle.ilp_addr.specs.Address.{prefix_at}

-- the prefix that a text spells: `*` is the empty one, which has no other spelling
unfoldable pub written_prefix : List ℕ → Option (List ℕ)
written_prefix text =
    if bytes_eq text (codes "*") then Some []
    else (if bytes_eq text [] then None else result_ok (prefix_at text))

-- how a prefix is written
abbrev pub prefix_word : List ℕ → List ℕ
prefix_word [] = codes "*"
prefix_word (b ∷ bytes) = b ∷ bytes
