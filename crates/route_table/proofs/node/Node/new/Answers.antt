use Rattle.std.proofs.Common.{sym, subst}
use Rattle.route_table.specs.Nodes.{IsNode}
use Rattle.route_table.specs.Children.{children_of}
use Rattle.route_table.proofs.Places.{no_children}
use Rattle.route_table.proofs.node.Node.new.Goals as goal

pub invariant_of-result : goal.invariant_of-result
invariant_of-result c = subst (λ cs. IsNode (children_of cs)) (sym c.new.ensures.items) no_children
