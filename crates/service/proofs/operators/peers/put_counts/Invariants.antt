use Rattle.std.proofs.Common.{◌≡◌, ◌++◌, take}
use Rattle.std.specs.List.{flat_map}
use Rattle.books_shared.specs.PeerOutcomes.{count_of_peer}
use Rattle.service.specs.Metrics.{all_outcomes}
use Rattle.service.specs.PeerMetrics.{peer_line}
use Rattle.service.proofs.operators.peers.put_counts.Given as goal

abbrev pub invariant-loop-outcome : goal.invariant-loop-outcome
invariant-loop-outcome l = l.text.items ≡ l.fn.text.items
    ++ flat_map (λ o. peer_line l.tenant l.name o (count_of_peer l.packets l.peer o)) (take l.outcome-index all_outcomes)
