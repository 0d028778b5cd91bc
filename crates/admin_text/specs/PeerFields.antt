-- What is agreed with a peer, field by field: in the words of a command, and at the keys of a setup's table.
use Rattle.std.specs.Prelude.{ℕ, List, [], ◌∷◌, ◌++◌, map, codes}
use Rattle.std.specs.List.{flat_map}
use Rattle.tenant_core.specs.declared.terms.PeerTerms.{PeerTerms}
use Rattle.admin_text.specs.Bucket.{bucket_keys}
use Rattle.admin_text.specs.Fields.{Field, NAME, ROLE, TOKEN, TARGET, ASSET, SCALE, LIMITS, BUCKET, AllSaid, ◌&◌}
use Rattle.admin_text.specs.Limits.{limit_keys}

-- a field, and its keys in a table
abbrev pub Row : Type 0
Row = List (List ℕ) × Field

-- the fields, without their keys
abbrev pub fields_of : List Row → List Field
fields_of rows = map (λ row. row.1) rows

-- the keys of a target
abbrev pub target_keys : List (List ℕ)
target_keys = codes "url" ∷ codes "out_token" ∷ []

-- the fields of a peer
abbrev pub peer_rows : List Row
peer_rows =
    (codes "name" ∷ [], NAME)
    ∷ (codes "role" ∷ [], ROLE)
    ∷ (codes "token" ∷ [], TOKEN)
    ∷ (target_keys, TARGET)
    ∷ (codes "asset" ∷ [], ASSET)
    ∷ (codes "scale" ∷ [], SCALE)
    ∷ (limit_keys, LIMITS)
    ∷ (bucket_keys, BUCKET)
    ∷ []

-- the key of what it owes
abbrev pub balance_key : List ℕ
balance_key = codes "balance"

-- all keys of a peer
abbrev pub peer_keys : List (List ℕ)
peer_keys = flat_map (λ row. row.0) peer_rows ++ balance_key ∷ []

-- what is agreed with a peer whose fields say that
abbrev pub peer_with : AllSaid (fields_of peer_rows) → PeerTerms
peer_with (name, (role, (token, (target, (asset, (scale, (limits, (bucket, _)))))))) = record {
  name = name;
  role = role;
  token = token;
  target = target;
  asset = asset;
  scale = scale;
  limits = limits;
  bucket = bucket;
}

-- what its fields say
abbrev pub peer_values : PeerTerms → AllSaid (fields_of peer_rows)
peer_values t = t.name & t.role & t.token & t.target & t.asset & t.scale & t.limits & t.bucket & tt
