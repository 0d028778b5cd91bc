use Rattle.std.proofs.Common.{◌≤◌, take, vec_len}
use Rattle.books_shared.specs.PeerOutcomes.{AreCountedByPeer, peer_numbers}
use Rattle.books_shared.proofs.peer_outcomes.count_all.Given as goal

abbrev pub invariant-loop-place : goal.invariant-loop-place
invariant-loop-place l = AreCountedByPeer l.rows.items l.holds (take l.place l.journal.records) × (vec_len l.rows ≤ peer_numbers)
