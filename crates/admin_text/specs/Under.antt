-- What fields say at their keys in a table, and all of a peer.
use Rattle.std.specs.Prelude.{ℕ, ℤ, pos, List, [], ◌∷◌, Option, Some, None, if◌then◌else◌}
use Rattle.toml.specs.Data.{Members}
use Rattle.common_types.specs.OptionChain.{◌>>=◌}
use Rattle.ilp_addr.specs.Target.{target_in}
use Rattle.tenant_core.specs.Terms.{is_balance_within}
use Rattle.tenant_core.specs.declared.terms.PeerTerms.{PeerTerms}
use Rattle.admin_text.specs.Bucket.{bucket_under}
use Rattle.admin_text.specs.Fields.{Field, WORD, NUMBER, NAME, ROLE, TOKEN, TARGET, LIMITS, BUCKET, Said, AllSaid, role_of}
use Rattle.admin_text.specs.Keys.{string_under, passing, between_under, integer_or}
use Rattle.admin_text.specs.Limits.{limits_under}
use Rattle.admin_text.specs.PeerFields.{Row, fields_of, peer_rows, peer_with, balance_key}

-- what a field of a peer says at its keys
unfoldable pub under : (f : Field) → List (List ℕ) → Members → Option (Said f)
under (WORD test) (key ∷ []) t = string_under key t >>= passing test
under (NUMBER low high) (key ∷ []) t = between_under low high key t
under ROLE (key ∷ []) t = string_under key t >>= role_of
under TARGET (url ∷ token ∷ []) t = do
  first ← string_under url t
  second ← string_under token t
  target_in first second
under LIMITS keys t = limits_under keys t
under BUCKET keys t = bucket_under keys t
under f keys t = None

-- the name at a key
abbrev pub name_under : List ℕ → Members → Option (List ℕ)
name_under key t = under NAME (key ∷ []) t

-- the token at a key
abbrev pub token_under : List ℕ → Members → Option (List ℕ)
token_under key t = under TOKEN (key ∷ []) t

-- what is made of what fields say at their keys
abbrev pub all_under : {A : Type 0} → (rows : List Row) → (AllSaid (fields_of rows) → A) → Members → Option A
all_under [] make t = Some (make tt)
all_under (row ∷ rows) make t = do
  value ← under row.1 row.0 t
  all_under rows (λ values. make (value, values)) t

-- what is agreed with a peer
unfoldable pub peer_terms_of : Members → Option PeerTerms
peer_terms_of t = all_under peer_rows peer_with t

-- a balance within its limits
abbrev pub balance_within : ℤ → Option ℤ
balance_within owed = if is_balance_within owed then Some owed else None

-- what a peer owes at the start, 0 if nothing is said
unfoldable pub starting_balance : Members → Option ℤ
starting_balance t = integer_or (pos 0) balance_key t >>= balance_within
