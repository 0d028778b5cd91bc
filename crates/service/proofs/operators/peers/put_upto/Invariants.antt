use Rattle.std.proofs.Common.{◌≡◌, ◌++◌}
use Rattle.service.specs.PeerMetrics.{peers_upto}
use Rattle.service.proofs.operators.peers.put_upto.Given as goal

abbrev pub invariant-loop-peer : goal.invariant-loop-peer
invariant-loop-peer l = l.text.items ≡ l.fn.text.items ++ peers_upto l.tenant l.book l.peer
