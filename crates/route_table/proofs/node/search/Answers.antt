use Rattle.std.proofs.Common.{rules, ◌≡◌}
use Rattle.std.specs.Cmp.Lexicographic.{slice_cmp}
use Rattle.std.specs.Ordering.{nat_cmp}
use Rattle.std.specs.declared.cmp.Ordering.{Ordering}
use Rattle.std.proofs.lemmas.Fn.{always_returns_same}
use Rattle.route_table.specs.declared.node.Child.{Child}
use Rattle.route_table.proofs.node.search.Goals as goal

pub returns-clause-position : goal.returns-clause-position
returns-clause-position c =
    let by : Child → Ordering = λ child. slice_cmp nat_cmp child.segment.items c.args.segment.now in
    c.binary_search_by.ensures.position by (always_returns_same _ (λ a r. r ≡ by a.0.now) _ (λ a r f' k. search rules))
