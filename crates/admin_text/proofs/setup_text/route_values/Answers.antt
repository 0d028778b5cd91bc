use Rattle.admin_text.specs.Told.{TellsRoute}
use Rattle.admin_text.proofs.TellsTenants.{told_more}
use Rattle.admin_text.proofs.setup_text.route_values.Goals as goal

pub loop-route-preserved : goal.loop-route-preserved
loop-route-preserved c =
    told_more (TellsRoute c.args.network.now.peers) c.loop-route.values.items c.push.new.self.items c.args.routes.now c.loop-route.route-index c.route-item.result c.in_ok-route_value.field-0 c.loop-route.invariant c.loop-route-test.true c.route-item.is
    c.in_ok-route_value.ensures c.in_ok-push.ensures.items
