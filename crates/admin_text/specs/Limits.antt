-- How far a peer is trusted: three numbers, at their keys in a table and as words of a command.
use Rattle.std.specs.Prelude.{◌≡◌, ℕ, true, List, [], ◌∷◌, codes, Option, Some, None, Result, Ok}
use Rattle.std.specs.List.{AllByRecursion}
use Rattle.toml.specs.Data.{Members}
use Rattle.common_types.specs.Numbers.{is_between}
use Rattle.common_types.specs.ResultChain.{◌>>=◌}
use Rattle.money_core.specs.declared.purse.TheConstants.{MAX_MONEY}
use Rattle.tenant_core.specs.declared.terms.PeerLimits.{PeerLimits}
use Rattle.admin_text.specs.Keys.{between_under, ◌<*>◌}
use Rattle.admin_text.specs.Taken.{number_taken}
use Rattle.admin_text.specs.declared.commands.TextFault.{TextFault}

-- their keys
abbrev pub limit_keys : List (List ℕ)
limit_keys = codes "cap" ∷ codes "ceiling" ∷ codes "credit" ∷ []

-- their numbers, and the limits of three numbers
abbrev pub limit_numbers : PeerLimits → List ℕ
limit_numbers l = l.cap ∷ l.ceiling ∷ l.credit ∷ []

abbrev pub limits_with : (cap ceiling credit : ℕ) → PeerLimits
limits_with cap ceiling credit = record { cap = cap; ceiling = ceiling; credit = credit }

-- they are within what is allowed
abbrev pub AreLimitsWithin : PeerLimits → Type 0
AreLimitsWithin l = AllByRecursion (λ n. is_between 0 MAX_MONEY n ≡ true) (limit_numbers l)

-- the limits at three keys
abbrev pub limits_under : List (List ℕ) → Members → Option PeerLimits
limits_under (a ∷ b ∷ c ∷ []) t =
    Some limits_with <*> between_under 0 MAX_MONEY a t <*> between_under 0 MAX_MONEY b t <*> between_under 0 MAX_MONEY c t
limits_under keys t = None

-- the limits at the front of words
abbrev pub limits_taken : List (List ℕ) → Result (PeerLimits × List (List ℕ)) TextFault
limits_taken words = do
  first ← number_taken 0 MAX_MONEY words
  second ← number_taken 0 MAX_MONEY first.1
  third ← number_taken 0 MAX_MONEY second.1
  Ok (limits_with first.0 second.0 third.0, third.1)
