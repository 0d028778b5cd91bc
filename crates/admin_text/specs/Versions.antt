-- Versions of setups: which of their keys count.
use Rattle.std.specs.Prelude.{ℕ, Bool, true, false, ◌==◌, List, [], ◌∷◌, codes, Option, Some, None, if◌then◌else◌}
use Rattle.admin_text.specs.PeerFields.{peer_keys}
use Rattle.admin_text.specs.declared.places.TableKind.{TableKind}
use Rattle.admin_text.specs.declared.places.TableKind.TheVariants.{Tenant, Peer, Route, Rate}
use Rattle.admin_text.specs.declared.version.Version.{Version}
use Rattle.admin_text.specs.declared.version.Version.TheVariants.{One, Two}

-- the version of a number
abbrev pub version_numbered : ℕ → Option Version
version_numbered n = if n == 1 then Some One else (if n == 2 then Some Two else None)

-- a route's fee counts
abbrev pub has_fees : Version → Bool
has_fees One = false
has_fees Two = true

-- the keys that count in a setup's own table
abbrev pub top_keys : List (List ℕ)
top_keys = codes "version" ∷ codes "start" ∷ codes "tenant" ∷ []

-- those in the table of a tenant, a peer, a route or a rate, in a setup of a version
abbrev pub keys_of : Version → TableKind → List (List ℕ)
keys_of version Tenant =
    codes "name" ∷ codes "address" ∷ codes "admin" ∷ codes "journal" ∷ codes "margin" ∷ codes "hold"
    ∷ codes "peer" ∷ codes "route" ∷ codes "rate" ∷ []
keys_of version Peer = peer_keys
keys_of version Route =
    codes "prefix" ∷ codes "peer" ∷ (if has_fees version then codes "fee" ∷ [] else [])
keys_of version Rate = codes "from" ∷ codes "to" ∷ codes "num" ∷ codes "den" ∷ []
