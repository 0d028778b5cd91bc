use Rattle.std.proofs.Common.{rules, ◌≡◌}
use Rattle.std.specs.Ordering.{nat_cmp}
use Rattle.std.specs.declared.cmp.Ordering.{Ordering}
use Rattle.std.proofs.lemmas.Fn.{always_returns_same}
use Rattle.tenant_core.specs.declared.peer.Peer.{Peer}
use Rattle.tenant_core.proofs.places.search_number.Goals as goal

pub returns-clause-position : goal.returns-clause-position
returns-clause-position c =
    let by : Peer → Ordering = λ p. nat_cmp p.number c.args.number in
    c.binary_search_by.ensures.position by (always_returns_same _ (λ a r. r ≡ by a.0.now) _ (λ a r f' k. search rules))
