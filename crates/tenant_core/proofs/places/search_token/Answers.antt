use Rattle.std.proofs.Common.{rules, ◌≡◌, ℕ}
use Rattle.std.specs.Cmp.Lexicographic.{slice_cmp}
use Rattle.std.specs.Ordering.{nat_cmp}
use Rattle.std.specs.declared.cmp.Ordering.{Ordering}
use Rattle.std.proofs.lemmas.Fn.{always_returns_same}
use Rattle.tenant_core.specs.Places.{token_at}
use Rattle.tenant_core.proofs.places.search_token.Goals as goal

pub returns-clause-position : goal.returns-clause-position
returns-clause-position c =
    let by : ℕ → Ordering = λ p. slice_cmp nat_cmp (token_at c.args.peers.now p) c.args.token.now in
    c.binary_search_by.ensures.position by (always_returns_same _ (λ a r. r ≡ by a.0.now) _ (λ a r f' k. search rules))
