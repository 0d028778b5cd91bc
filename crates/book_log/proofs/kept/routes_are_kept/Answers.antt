use Rattle.std.proofs.Common.{arith}
use Rattle.statements.specs.ReadBack.{IsRouteWritable}
use Rattle.book_log.proofs.EachItem.{all_done, all_next}
use Rattle.book_log.proofs.kept.routes_are_kept.Goals as goal

pub loop-route-preserved : goal.loop-route-preserved
loop-route-preserved c =
    all_next IsRouteWritable c.args.routes.now c.loop-route.route-index c.route-item.result (omega (arith, c.loop-route-test.true)) c.route-item.is
    c.route_is_kept.ensures c.loop-route.invariant

pub returns : goal.returns
returns c = all_done IsRouteWritable c.args.routes.now c.loop-route.route-index (omega (arith, c.loop-route-test.false)) c.loop-route.invariant
