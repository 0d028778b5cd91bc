use Rattle.std.proofs.Common.{◌≡◌}
use Rattle.std.specs.FinMap.{get}
use Rattle.std.specs.Option.{option_or}
use Rattle.ilp_addr.specs.Segments.{segments_left}
use Rattle.route_table.specs.Paths.{longest_at}
use Rattle.route_table.proofs.node.Node.find.Given as goal

abbrev pub invariant-loop-segment : goal.invariant-loop-segment
invariant-loop-segment l =
    option_or (longest_at (get l.node.routes) (segments_left l.segment-iterator)) l.best ≡ longest_at (get l.self.routes) (segments_left l.path)
