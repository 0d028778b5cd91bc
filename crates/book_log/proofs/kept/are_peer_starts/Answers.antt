use Rattle.std.proofs.Common.{arith, refl}
use Rattle.book_log.specs.OneBase.{IsPeerStart}
use Rattle.book_log.proofs.EachItem.{all_done, all_next}
use Rattle.book_log.proofs.kept.are_peer_starts.Goals as goal

pub loop-peer-preserved : goal.loop-peer-preserved
loop-peer-preserved c =
    all_next (IsPeerStart c.args.clock) c.args.peers.now c.loop-peer.peer-index c.peer-item.result (omega (arith, c.loop-peer-test.true)) c.peer-item.is
    (c.is_peer_start.ensures.0 c.if-not-is_peer_start.false) c.loop-peer.invariant

pub returns : goal.returns
returns c =
    let all = all_done (IsPeerStart c.args.clock) c.args.peers.now c.loop-peer.peer-index (omega (arith, c.loop-peer-test.false)) c.loop-peer.invariant in
    (λ start. all, λ all. refl)
