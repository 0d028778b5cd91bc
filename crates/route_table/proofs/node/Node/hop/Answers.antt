use Rattle.std.proofs.Common.{ap}
use Rattle.route_table.specs.Nodes.{Branch}
use Rattle.route_table.proofs.NodeLemmas.{hop_is}
use Rattle.route_table.proofs.node.Node.hop.Goals as goal

pub returns : goal.returns
returns c = hop_is c.args.self.now _ _ (ap (λ (b : Branch). b.routes) c.self.view_is)
