use Rattle.std.proofs.Common.{length}
use Rattle.ilp_addr.specs.Segments.{segments_left}
use Rattle.route_table.proofs.node.Node.+remove.Given as goal

abbrev pub decreases-remove : goal.decreases-remove
decreases-remove l = length (segments_left l.path)
