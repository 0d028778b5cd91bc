-- How many packets of a peer pass: two numbers, at their keys in a table and as words of a command.
use Rattle.std.specs.Prelude.{◌≡◌, ℕ, true, List, [], ◌∷◌, codes, Option, Some, None, Result, Ok}
use Rattle.toml.specs.Data.{Members}
use Rattle.common_types.specs.Numbers.{is_between}
use Rattle.common_types.specs.ResultChain.{◌>>=◌}
use Rattle.tenant_core.specs.declared.limits.TheConstants.{MAX_BURST, MAX_PER_SECOND}
use Rattle.tenant_core.specs.declared.terms.BucketTerms.{BucketTerms}
use Rattle.admin_text.specs.Keys.{between_under, ◌<*>◌}
use Rattle.admin_text.specs.Taken.{number_taken}
use Rattle.admin_text.specs.declared.commands.TextFault.{TextFault}

-- their keys
abbrev pub bucket_keys : List (List ℕ)
bucket_keys = codes "burst" ∷ codes "per_second" ∷ []

-- its numbers, and the bucket of two numbers
abbrev pub bucket_numbers : BucketTerms → List ℕ
bucket_numbers b = b.burst ∷ b.per_second ∷ []

abbrev pub bucket_with : (burst per_second : ℕ) → BucketTerms
bucket_with burst per_second = record { burst = burst; per_second = per_second }

-- they are within what is allowed
abbrev pub IsBucketWithin : BucketTerms → Type 0
IsBucketWithin b = (is_between 1 MAX_BURST b.burst ≡ true) × (is_between 0 MAX_PER_SECOND b.per_second ≡ true)

-- the bucket at two keys
abbrev pub bucket_under : List (List ℕ) → Members → Option BucketTerms
bucket_under (a ∷ b ∷ []) t = Some bucket_with <*> between_under 1 MAX_BURST a t <*> between_under 0 MAX_PER_SECOND b t
bucket_under keys t = None

-- the bucket at the front of words
abbrev pub bucket_taken : List (List ℕ) → Result (BucketTerms × List (List ℕ)) TextFault
bucket_taken words = do
  first ← number_taken 1 MAX_BURST words
  second ← number_taken 0 MAX_PER_SECOND first.1
  Ok (bucket_with first.0 second.0, second.1)
