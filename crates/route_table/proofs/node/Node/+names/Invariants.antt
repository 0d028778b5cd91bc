use Rattle.std.specs.Prelude.{◌↔◌, drop}
use Rattle.route_table.specs.Nodes.{Names}
use Rattle.route_table.specs.Children.{children_of}
use Rattle.route_table.proofs.NodeLemmas.{SomeChildNames}
use Rattle.route_table.proofs.node.Node.+names.Given as goal

abbrev pub invariant-loop-child : goal.invariant-loop-child
invariant-loop-child l = Names l.group l.self.routes ↔ SomeChildNames l.group (children_of (drop l.child-index l.child-items))
