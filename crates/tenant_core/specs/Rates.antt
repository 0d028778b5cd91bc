-- The rates between peers: what changes them, and what is kept beside them.
use Rattle.std.specs.Prelude.{ℕ, ◌≤◌, not, List, [], ◌∷◌, ◌++◌, length, if◌then◌else◌}
use Rattle.std.specs.List.{filter}
use Rattle.tenant_core.specs.Limits.{max_rates}
use Rattle.tenant_core.specs.Network.{has_pair, names_peer, replaced_rate}
use Rattle.tenant_core.specs.Places.{IsByPair, ArePairsApart}
use Rattle.tenant_core.specs.declared.rates.RateList.TheInside.{Inside}
use Rattle.tenant_core.specs.declared.terms.RateTerms.{RateTerms}

-- with a rate, in the place of the one for the same pair if there is one
abbrev pub rates_with : RateTerms → List RateTerms → List RateTerms
rates_with r rates = if has_pair r rates then replaced_rate r rates else rates ++ r ∷ []

-- without those that name the peer of that number
abbrev pub rates_without : ℕ → List RateTerms → List RateTerms
rates_without n rates = filter (λ r. not (names_peer n r)) rates

-- an index by pairs, which tell the rates apart
pub record IsRateList (l : Inside) : Type 0 where
  pub pairs : IsByPair l.rates.items l.by_pair.items
  pub apart : ArePairsApart l.rates.items
  pub few : length l.rates.items ≤ max_rates
