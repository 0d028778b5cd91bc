use Rattle.std.proofs.Common.{◌≡◌, ◌++◌, take}
use Rattle.std.specs.List.{flat_map}
use Rattle.service.specs.Metrics.{figure_of, family_head, family_line}
use Rattle.service.proofs.host.metrics.put_each.Given as goal

abbrev pub invariant-loop-counts : goal.invariant-loop-counts
invariant-loop-counts l = l.text.items ≡ (l.fn.text.items ++ family_head l.family)
    ++ flat_map (λ counts. family_line l.family counts.name.now (figure_of l.family counts)) (take l.counts-index l.all)
