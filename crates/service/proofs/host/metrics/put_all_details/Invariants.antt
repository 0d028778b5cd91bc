use Rattle.std.proofs.Common.{◌≡◌, ◌++◌, take}
use Rattle.std.specs.List.{flat_map}
use Rattle.service.specs.Metrics.{details_of, family_head}
use Rattle.service.proofs.host.metrics.put_all_details.Given as goal

abbrev pub invariant-loop-counts : goal.invariant-loop-counts
invariant-loop-counts l = l.text.items ≡ (l.fn.text.items ++ family_head l.family) ++ flat_map (details_of l.family) (take l.counts-index l.all)
