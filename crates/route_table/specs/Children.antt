-- The children that a node keeps, as contracts see them.
use Rattle.std.specs.Prelude.{ℕ, List, ◌+◌, map}
use denote.Param.Weighed.{most}
use Rattle.route_table.specs.declared.node.Child.{Child}
use Rattle.route_table.specs.Nodes.{Children}

-- the segment of each child, and its branch
abbrev pub children_of : List Child → Children
children_of children = map (λ (child : Child). (child.segment.items, child.node.value)) children

-- one more than the deepest child
abbrev pub height_of : List Child → ℕ
height_of children = most (λ (child : Child). child.node.value.height + 1) children
