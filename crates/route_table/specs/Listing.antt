-- The routes of a node of the trie in the order of their paths, each with the bytes of its prefix.
use Rattle.std.specs.Prelude.{ℕ, List, [], ◌∷◌, ◌++◌, Option, Some, None}
use Rattle.std.specs.List.{join_with_byte}
use Rattle.ilp_addr.specs.Address.{IsPrefix}
use Rattle.route_table.specs.Paths.{Path}
use Rattle.route_table.specs.Nodes.{PathRow}
use Rattle.route_table.specs.declared.hop.Hop.{Hop}
use Rattle.route_table.specs.declared.route.Route.{Route}

-- the prefix of a path, after the prefix that leads to it, if there is one
abbrev pub prefix_behind : Option (List ℕ) → Path → List ℕ
prefix_behind None path = join_with_byte 46 path
prefix_behind (Some front) path = join_with_byte 46 (front ∷ path)

-- the prefix that leads to the paths one segment further down
abbrev pub front_with : Option (List ℕ) → List ℕ → List ℕ
front_with None segment = segment
front_with (Some front) segment = front ++ 46 ∷ segment

-- the routes of the rows, with that prefix before each path
abbrev pub spelled : Option (List ℕ) → List PathRow → List Route
spelled front [] = []
spelled front (row ∷ rows) = (record { prefix = prefix_behind front row.0; hop = row.1 }) ∷ spelled front rows

-- each has a prefix
abbrev pub AreSpelled : Option (List ℕ) → List PathRow → Type 0
AreSpelled front [] = Unit {0}
AreSpelled front (row ∷ rows) = IsPrefix (prefix_behind front row.0) × AreSpelled front rows

-- a route's prefix and its hop
abbrev pub entry_of : Route → List ℕ × Hop
entry_of route = (route.prefix, route.hop)
