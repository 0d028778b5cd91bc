use Rattle.admin_text.specs.Told.{TellsRate}
use Rattle.admin_text.proofs.TellsTenants.{told_more}
use Rattle.admin_text.proofs.setup_text.rate_values.Goals as goal

pub loop-rate-preserved : goal.loop-rate-preserved
loop-rate-preserved c =
    told_more (TellsRate c.args.network.now.peers) c.loop-rate.values.items c.push.new.self.items c.args.rates.now c.loop-rate.rate-index c.rate-item.result c.in_ok-rate_value.field-0 c.loop-rate.invariant c.loop-rate-test.true c.rate-item.is
    c.in_ok-rate_value.ensures c.in_ok-push.ensures.items
