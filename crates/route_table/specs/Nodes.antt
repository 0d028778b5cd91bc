-- The routes of a node of the trie, read off the node and its children.
use Rattle.std.specs.Prelude.{◌≡◌, ◌≢◌, ◌≤◌, refl, ℕ, List, [], ◌∷◌, ◌++◌, if◌then◌else◌, Option, Some, None}
use Rattle.std.specs.FinMap as map
use Rattle.std.specs.FinMap.{from_entries, entries}
use Rattle.std.specs.Coded.{Coded, code_by, coded×, coded_ℕ, coded_list}
use Rattle.std.specs.Map.{lookup, keys_of}
use Rattle.std.specs.Ordering.{nat_cmp}
use Rattle.std.specs.Cmp.Lexicographic.{slice_cmp}
use Rattle.std.specs.List.Sorted.{IsStrictlySortedBy}
use Rattle.std.specs.Option.{option_and_then}
use Rattle.route_table.specs.declared.node.PeerGroup.{PeerGroup}
use Rattle.route_table.specs.declared.node.PeerGroup.TheVariants.{Peer, NotBelow}
use Rattle.route_table.specs.Hops.{hop_code}
use Rattle.route_table.specs.Paths.{Path, PathMap, is_same}
use Rattle.route_table.specs.declared.hop.Hop.{Hop}

-- what contracts see of a node: the routes from it on, by the segments that follow, and how deep it goes
pub record Branch : Type 0 where
  pub routes : PathMap
  pub height : ℕ

-- stored as the pair of its fields
abbrev pub branch_code : Coded Branch
branch_code =
    code_by (PathMap × ℕ) (coded× (map.code (coded_list (coded_list coded_ℕ)) hop_code) coded_ℕ)
    (λ b. (b.routes, b.height)) (λ p. record { routes = p.0; height = p.1 }) (λ _. refl)

-- the branch under each segment
abbrev pub Children : Type 0
Children = List (List ℕ × Branch)

-- a path and its hop
abbrev pub PathRow : Type 0
PathRow = Path × Hop

-- the row of the node itself
abbrev pub own_row : Option Hop → List PathRow
own_row None = []
own_row (Some hop) = ([], hop) ∷ []

-- each row with a segment in front
abbrev pub below : List ℕ → List PathRow → List PathRow
below s [] = []
below s (row ∷ rows) = (s ∷ row.0, row.1) ∷ below s rows

-- the rows that do not begin with a segment
abbrev pub apart : List ℕ → List PathRow → List PathRow
apart s [] = []
apart s (([], hop) ∷ rows) = ([], hop) ∷ apart s rows
apart s ((t ∷ path, hop) ∷ rows) =
    if is_same t s then apart s rows else (t ∷ path, hop) ∷ apart s rows

-- the rows of the children; of two children under one segment the first counts
abbrev pub rows_of : Children → List PathRow
rows_of [] = []
rows_of (child ∷ children) =
    below child.0 (entries child.1.routes) ++ apart child.0 (rows_of children)

-- the routes of a node with a hop of its own, if it has one, and children
abbrev pub routes_from : Option Hop → Children → PathMap
routes_from hop children = from_entries (own_row hop ++ rows_of children)

-- the child under a segment
abbrev pub child_of : List ℕ → Children → Option Branch
child_of s children = lookup (is_same s) children

-- the hop of a path from a branch on, if there is the branch
abbrev pub hop_in : Path → Option Branch → Option Hop
hop_in path branch = option_and_then (λ (b : Branch). map.get b.routes path) branch

-- no child is without a route
abbrev pub HasNoEmptyChild : Children → Type 0
HasNoEmptyChild children =
    (s : List ℕ) (child : Branch) → child_of s children ≡ Some child → child.routes ≢ map.empty

-- a node's children: each has a route, and they are in the order of their segments
pub record IsNode (children : Children) : Type 0 where
  pub used : HasNoEmptyChild children
  pub ordered : IsStrictlySortedBy (slice_cmp nat_cmp) (keys_of children)

-- the peer is of the group
abbrev pub IsInGroup : PeerGroup → ℕ → Type 0
IsInGroup (Peer other) peer = peer ≡ other
IsInGroup (NotBelow count) peer = count ≤ peer

-- there is a hop, and its peer is of the group
abbrev pub LeadsToGroup : PeerGroup → Option Hop → Type 0
LeadsToGroup group None = ⊥
LeadsToGroup group (Some hop) = IsInGroup group hop.peer

-- some path has a peer of the group
abbrev pub Names : PeerGroup → PathMap → Type 0
Names group paths =
    (path : Path) × (hop : Hop) × (map.get paths path ≡ Some hop) × IsInGroup group hop.peer
