use Rattle.admin_text.specs.Told.{TellsPeer}
use Rattle.admin_text.proofs.TellsTenants.{told_more}
use Rattle.admin_text.proofs.setup_text.peer_values.Goals as goal

pub loop-peer-preserved : goal.loop-peer-preserved
loop-peer-preserved c =
    told_more TellsPeer c.loop-peer.values.items c.push.new.self.items c.args.peers.now c.loop-peer.peer-index c.peer-item.result c.in_ok-peer_value.field-0 c.loop-peer.invariant c.loop-peer-test.true c.peer-item.is
    c.in_ok-peer_value.ensures c.in_ok-push.ensures.items
