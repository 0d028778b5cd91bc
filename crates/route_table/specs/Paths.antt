-- Paths, which are lists of segments, and maps of them.
use Rattle.std.specs.Prelude.{ℕ, Bool, List, [], ◌∷◌, Option}
use Rattle.std.specs.Option.{option_or}
use Rattle.std.specs.Ordering.{nat_cmp, is_eq}
use Rattle.std.specs.Cmp.Lexicographic.{slice_cmp}
use Rattle.std.specs.FinMap.{FinMap}
use Rattle.route_table.specs.declared.hop.Hop.{Hop}

-- segments, from the scheme on
abbrev pub Path : Type 0
Path = List (List ℕ)

-- the hop of each path
abbrev pub PathMap : Type 0
PathMap = FinMap (slice_cmp (slice_cmp nat_cmp)) Hop

-- the order of segments does not tell the two apart
abbrev pub is_same : List ℕ → List ℕ → Bool
is_same s t = is_eq (slice_cmp nat_cmp s t)

-- of what a function gives at the beginnings of a path, that of the longest
abbrev pub longest_at : (Path → Option Hop) → Path → Option Hop
longest_at f [] = f []
longest_at f (s ∷ path) = option_or (longest_at (λ q. f (s ∷ q)) path) (f [])
