-- Keys whose values are not shown, since they are tokens or may be meant as one.
use Rattle.std.specs.Prelude.{ℕ, Bool, false, ◌||◌, List, [], ◌∷◌, codes, length, map, take}
use Rattle.std.specs.Char.{to_ascii_lowercase}
use Rattle.std.specs.Str.{bytes_eq}

-- a text begins with a word, in letters of either case
abbrev pub begins_with_word : List ℕ → List ℕ → Bool
begins_with_word text word = bytes_eq (map to_ascii_lowercase (take (length word) text)) (map to_ascii_lowercase word)

-- a word occurs somewhere in a text, in letters of either case
unfoldable pub has_word : List ℕ → List ℕ → Bool
has_word [] word = false
has_word (b ∷ bs) word = begins_with_word (b ∷ bs) word || has_word bs word

-- a key that begins with `admin` or contains `token`
abbrev pub is_secret : List ℕ → Bool
is_secret key = begins_with_word key (codes "admin") || has_word key (codes "token")
