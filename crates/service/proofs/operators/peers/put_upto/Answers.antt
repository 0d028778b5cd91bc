use Rattle.service.proofs.PeerLines.{next_peer_lines}
use Rattle.service.proofs.operators.peers.put_upto.Goals as goal

pub loop-peer-preserved : goal.loop-peer-preserved
loop-peer-preserved c =
    next_peer_lines c.args.tenant.now c.args.book.now c.loop-peer.peer c.args.text.now.items c.loop-peer.text.items c.put_peer.new.text.items
    c.loop-peer.invariant c.in_ok-put_peer.ensures
