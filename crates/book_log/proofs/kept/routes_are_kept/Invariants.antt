use Rattle.std.proofs.Common.{take}
use Rattle.std.specs.List.{All}
use Rattle.statements.specs.ReadBack.{IsRouteWritable}
use Rattle.book_log.proofs.kept.routes_are_kept.Given as goal

abbrev pub invariant-loop-route : goal.invariant-loop-route
invariant-loop-route l = All IsRouteWritable (take l.route-index l.routes)
