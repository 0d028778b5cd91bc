use Rattle.std.proofs.Common.{ap, arith}
use Rattle.route_table.specs.Nodes.{Branch}
use Rattle.route_table.specs.Children.{children_of}
use Rattle.route_table.proofs.NodeLemmas.{empty_without_hop, not_empty_with_hop}
use Rattle.route_table.proofs.Places.{childless}
use Rattle.route_table.proofs.node.Node.is_empty.Goals as goal

pub returns-then-is_none : goal.returns-then-is_none
returns-then-is_none c =
    childless c.is_empty.result _ c.self.inside.children.items c.is_empty.ensures (omega arith)
    (empty_without_hop c.args.self.now c.self.inside.hop (children_of c.self.inside.children.items) c.self.invariant.used (ap (λ (b : Branch). b.routes) c.self.view_is) (c.if-is_none.ensures))

pub returns-else-is_none : goal.returns-else-is_none
returns-else-is_none c =
    let some = not_empty_with_hop c.args.self.now c.self.inside.hop (children_of c.self.inside.children.items) (ap (λ (b : Branch). b.routes) c.self.view_is) (c.if-is_none.ensures) in
    (λ t. absurd cc, λ e. absurd (some e))
