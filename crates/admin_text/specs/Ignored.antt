-- The keys of a good setup that nobody reads.
use Rattle.std.specs.Prelude.{ℕ, ◌+◌, Bool, List, [], ◌∷◌, ◌++◌, codes, if◌then◌else◌, unwrap_or}
use Rattle.std.specs.Prelude.{Option, Some, None, Result, Ok, Err}
use Rattle.std.specs.List.{list_any}
use Rattle.std.specs.Option.{option_map_or}
use Rattle.std.specs.Str.{bytes_eq, is_utf8}
use Rattle.toml.specs.Data.{Data, Items, no_items, item, Members, no_members, member, as_table}
use Rattle.toml.specs.Parse.{parse_document}
use Rattle.admin_text.specs.Keys.{items_under}
use Rattle.admin_text.specs.Setup.{setup_of_table, version_of}
use Rattle.admin_text.specs.Versions.{top_keys, keys_of}
use Rattle.admin_text.specs.declared.places.TableKind.{TableKind}
use Rattle.admin_text.specs.declared.places.TableKind.TheVariants.{Tenant, Peer, Route, Rate}
use Rattle.admin_text.specs.declared.places.Spot.{Spot}
use Rattle.admin_text.specs.declared.places.Spot.TheVariants as spot
use Rattle.admin_text.specs.declared.places.TablePlace.{TablePlace}
use Rattle.admin_text.specs.declared.places.TablePlace.TheVariants as place
use Rattle.admin_text.specs.declared.setup.Setup.{Setup}
use Rattle.admin_text.specs.declared.setup.SetupFault.{SetupFault}
use Rattle.admin_text.specs.declared.version.Version.{Version}

-- ---- the keys that count

-- the place of a spot's table
abbrev pub table_place : Spot → TablePlace
table_place spot.Top = place.Top
table_place (spot.Tenant tenant) = place.Tenant tenant.number
table_place (spot.Part tenant part) = place.Part tenant.number part.kind part.number

-- those that count in the table at a place
abbrev pub keys_at : Version → TablePlace → List (List ℕ)
keys_at version place.Top = top_keys
keys_at version (place.Tenant number) = keys_of version Tenant
keys_at version (place.Part tenant kind number) = keys_of version kind

-- a key counts at a place
abbrev pub is_key : Version → TablePlace → List ℕ → Bool
is_key version at key = list_any (λ known. bytes_eq key known) (keys_at version at)

-- ---- the others

-- a key, and the place of its table
abbrev pub KeyAt : Type 0
KeyAt = TablePlace × List ℕ

-- those of a table, in its order
unfoldable pub ignored_at : Version → TablePlace → Members → List KeyAt
ignored_at version at no_members = []
ignored_at version at (member key value others) =
    if is_key version at key then ignored_at version at others else (at, key) ∷ ignored_at version at others

-- those of a value, if it is a table
abbrev pub ignored_in_value : Version → TablePlace → Data → List KeyAt
ignored_in_value version at value = option_map_or (ignored_at version at) (as_table value) []

-- the values of the array of tables of a kind
abbrev pub items_of : List ℕ → Members → Items
items_of key t = unwrap_or (items_under key t) no_items

-- those of a tenant's peers, routes or rates, which are numbered from that number on
unfoldable pub ignored_in_parts : Version → ℕ → TableKind → ℕ → Items → List KeyAt
ignored_in_parts version tenant kind number no_items = []
ignored_in_parts version tenant kind number (item first others) =
    ignored_in_value version (place.Part tenant kind number) first
    ++ ignored_in_parts version tenant kind (number + 1) others

-- those of a tenant: of its own table, its peers, its routes and its rates
abbrev pub ignored_in_tenant : Version → ℕ → Members → List KeyAt
ignored_in_tenant version tenant t =
    ignored_at version (place.Tenant tenant) t
    ++ ignored_in_parts version tenant Peer 1 (items_of (codes "peer") t)
    ++ ignored_in_parts version tenant Route 1 (items_of (codes "route") t)
    ++ ignored_in_parts version tenant Rate 1 (items_of (codes "rate") t)

-- those of a value, if it is the table of a tenant
abbrev pub ignored_in_tenant_value : Version → ℕ → Data → List KeyAt
ignored_in_tenant_value version number value = option_map_or (ignored_in_tenant version number) (as_table value) []

-- those of tenants, which are numbered from that number on
unfoldable pub ignored_in_tenants : Version → ℕ → Items → List KeyAt
ignored_in_tenants version number no_items = []
ignored_in_tenants version number (item first others) =
    ignored_in_tenant_value version number first ++ ignored_in_tenants version (number + 1) others

-- those of a document of a version: at the top, and of each tenant
abbrev pub ignored_by : Version → Members → List KeyAt
ignored_by version t =
    ignored_at version place.Top t ++ ignored_in_tenants version 0 (items_of (codes "tenant") t)

-- those of a document with that setup and version, otherwise none
abbrev pub ignored_if : Result Setup SetupFault → Option Version → Members → List KeyAt
ignored_if (Ok setup) (Some version) t = ignored_by version t
ignored_if (Ok setup) None t = []
ignored_if (Err fault) version t = []

-- those of a document: none if it is not a good setup
unfoldable pub ignored_in_document : Members → List KeyAt
ignored_in_document t = ignored_if (setup_of_table t) (version_of t) t

-- the document that a text is
abbrev pub document_in : List ℕ → Option Members
document_in text = if is_utf8 text then parse_document text else None

-- those of a text: none if it is not a good setup
abbrev pub ignored_in : List ℕ → List KeyAt
ignored_in text = option_map_or ignored_in_document (document_in text) []
