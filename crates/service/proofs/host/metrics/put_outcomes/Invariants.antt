use Rattle.std.proofs.Common.{◌≡◌, ◌++◌, take}
use Rattle.std.specs.List.{flat_map}
use Rattle.books_shared.specs.Outcomes.{count_at}
use Rattle.service.specs.Metrics.{detail_line, outcome_word}
use Rattle.service.specs.declared.host.metrics.Family.TheVariants.{Packets}
use Rattle.service.proofs.host.metrics.put_outcomes.Given as goal

abbrev pub invariant-loop-outcome : goal.invariant-loop-outcome
invariant-loop-outcome l = l.text.items ≡ l.fn.text.items
    ++ flat_map (λ o. detail_line Packets l.counts.name.now (outcome_word o) (count_at o l.counts.packets.outcomes)) (take l.outcome-index l.outcomes)
