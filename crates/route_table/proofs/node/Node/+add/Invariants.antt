use Rattle.std.proofs.Common.{length}
use Rattle.ilp_addr.specs.Segments.{segments_left}
use Rattle.route_table.proofs.node.Node.+add.Given as goal

abbrev pub decreases-add : goal.decreases-add
decreases-add l = length (segments_left l.path)
