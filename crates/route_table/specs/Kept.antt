-- The routes that a trie keeps, by the bytes of their prefixes.
use Rattle.std.specs.Prelude.{◌≡◌, ◌≤◌, ℕ, List, [], ◌∷◌}
use Rattle.std.specs.List.{join_with_byte}
use Rattle.std.specs.FinMap.{from_entries, entries, len}
use Rattle.ilp_addr.specs.Address.{IsPrefix, prefix_segments}
use Rattle.route_table.specs.Paths.{Path, PathMap}
use Rattle.route_table.specs.Nodes.{PathRow}
use Rattle.route_table.specs.Routes.{RouteMap, max_routes}
use Rattle.route_table.specs.declared.hop.Hop.{Hop}

-- each row with its segments joined by dots
abbrev pub joined : List PathRow → List (List ℕ × Hop)
joined [] = []
joined (row ∷ rows) = (join_with_byte 46 row.0, row.1) ∷ joined rows

-- the routes by prefix
abbrev pub routes_of : PathMap → RouteMap
routes_of paths = from_entries (joined (entries paths))

-- the path has the segments of a prefix
abbrev pub IsPrefixPath : Path → Type 0
IsPrefixPath path =
    (prefix_segments (join_with_byte 46 path) ≡ path) × IsPrefix (join_with_byte 46 path)

-- so has the path of each row
abbrev pub ArePrefixes : List PathRow → Type 0
ArePrefixes [] = Unit {0}
ArePrefixes (row ∷ rows) = IsPrefixPath row.0 × ArePrefixes rows

-- the paths are those of prefixes, they are counted, and there are no more than an operator may have
pub record RoutesInvariant (paths : PathMap) (count : ℕ) : Type 0 where
  pub prefixes : ArePrefixes (entries paths)
  pub counted : count ≡ len (routes_of paths)
  pub few : count ≤ max_routes
