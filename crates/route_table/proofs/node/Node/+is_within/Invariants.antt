use Rattle.std.specs.Prelude.{drop}
use Rattle.route_table.specs.Children.{children_of}
use Rattle.route_table.proofs.Included.{IsLeft}
use Rattle.route_table.proofs.node.Node.+is_within.Given as goal

abbrev pub invariant-loop-child : goal.invariant-loop-child
invariant-loop-child l = IsLeft l.self.routes l.other.routes (children_of (drop l.child-index l.child-items))
