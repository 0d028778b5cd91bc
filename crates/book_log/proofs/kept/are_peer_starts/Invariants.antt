use Rattle.std.proofs.Common.{take}
use Rattle.std.specs.List.{All}
use Rattle.book_log.specs.OneBase.{IsPeerStart}
use Rattle.book_log.proofs.kept.are_peer_starts.Given as goal

abbrev pub invariant-loop-peer : goal.invariant-loop-peer
invariant-loop-peer l = All (IsPeerStart l.clock) (take l.peer-index l.peers)
