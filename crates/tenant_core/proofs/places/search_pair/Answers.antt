use Rattle.std.proofs.Common.{rules, ◌≡◌, ℕ}
use Rattle.std.specs.declared.cmp.Ordering.{Ordering}
use Rattle.std.proofs.lemmas.Fn.{always_returns_same}
use Rattle.tenant_core.specs.Places.{pair_at, pair_cmp}
use Rattle.tenant_core.proofs.places.search_pair.Goals as goal

pub returns-clause-position : goal.returns-clause-position
returns-clause-position c =
    let by : ℕ → Ordering = λ p. pair_cmp (pair_at c.args.rates.now p) c.args.pair in
    c.binary_search_by.ensures.position by (always_returns_same _ (λ a r. r ≡ by a.0.now) _ (λ a r f' k. search rules))
