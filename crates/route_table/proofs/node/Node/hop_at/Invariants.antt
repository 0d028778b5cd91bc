use Rattle.std.proofs.Common.{◌≡◌}
use Rattle.std.specs.FinMap.{get}
use Rattle.ilp_addr.specs.Segments.{segments_left}
use Rattle.route_table.proofs.node.Node.hop_at.Given as goal

abbrev pub invariant-loop-segment : goal.invariant-loop-segment
invariant-loop-segment l = get l.node.routes (segments_left l.segment-iterator) ≡ get l.self.routes (segments_left l.path)
