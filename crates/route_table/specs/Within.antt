-- Routes that are among others.
use Rattle.std.specs.Prelude.{◌≡◌, Some}
use Rattle.std.specs.FinMap as map
use Rattle.route_table.specs.Paths.{Path, PathMap}
use Rattle.route_table.specs.declared.hop.Hop.{Hop}

-- each path has the hop in the other map that it has in the one
abbrev pub IsWithin : PathMap → PathMap → Type 0
IsWithin m n = (path : Path) (hop : Hop) → map.get m path ≡ Some hop → map.get n path ≡ Some hop
