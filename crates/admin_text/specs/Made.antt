-- Tables as they are made for a setup: key by key.
use Rattle.std.specs.Prelude.{◌≡◌, ℕ, pos, List, [], ◌∷◌, ◌++◌, map, fold, zip}
use Rattle.std.specs.Ordering.{nat_cmp, match_ordering}
use Rattle.std.specs.Cmp.Lexicographic.{slice_cmp}
use Rattle.toml.specs.Data.{Data, string, integer, array, Items, Members, no_members, member}
use Rattle.money_core.specs.Fraction.{Fraction}
use Rattle.tenant_core.specs.declared.peer.Peer.{Peer}
use Rattle.tenant_core.specs.declared.terms.TenantTerms.{TenantTerms}
use Rattle.admin_text.specs.Fields.{Field, WORD, NUMBER, ROLE, PREFIX, TARGET, PAIR, FEE, LIMITS, BUCKET}
use Rattle.admin_text.specs.Fields.{Said, AllSaid, role_word, IsWithinField}
use Rattle.admin_text.specs.Limits.{limit_numbers}
use Rattle.admin_text.specs.Bucket.{bucket_numbers}
use Rattle.admin_text.specs.PeerFields.{Row, fields_of, peer_rows, peer_values, balance_key}
use Rattle.admin_text.specs.Prefixes.{prefix_word}
use Rattle.admin_text.specs.Versions.{top_keys, keys_of}
use Rattle.admin_text.specs.declared.places.TableKind.TheVariants.{Tenant, Route, Rate}
use Rattle.admin_text.specs.declared.version.Version.TheVariants.{Two}

-- the members with one more at its place, or with another value at a key that is there
abbrev pub with_member : List ℕ → Data → Members → Members
with_member key value no_members = member key value no_members
with_member key value (member first there others) =
    match_ordering (slice_cmp nat_cmp key first)
    (member key value (member first there others))
    (member first value others)
    (member first there (with_member key value others))

-- a key and its value
abbrev pub Pair : Type 0
Pair = List ℕ × Data

-- one pair more
abbrev pub with_pair : Members → Pair → Members
with_pair members pair = with_member pair.0 pair.1 members

-- the members of these pairs
abbrev pub made : List Pair → Members
made pairs = fold with_pair no_members pairs

-- a number
abbrev pub number_data : ℕ → Data
number_data n = integer (pos n)

-- the values at the keys of a field
abbrev pub field_data : (f : Field) → Said f → List Data
field_data (WORD test) word = string word ∷ []
field_data (NUMBER low high) n = number_data n ∷ []
field_data ROLE r = string (role_word r) ∷ []
field_data PREFIX p = string (prefix_word p) ∷ []
field_data TARGET t = string t.url ∷ string t.token ∷ []
field_data PAIR p = string p.from ∷ string p.to ∷ []
field_data (FEE high) n = number_data n ∷ []
field_data LIMITS l = map number_data (limit_numbers l)
field_data BUCKET b = map number_data (bucket_numbers b)

-- the keys of fields, and the values there
abbrev pub all_pairs : (rows : List Row) → AllSaid (fields_of rows) → List Pair
all_pairs [] values = []
all_pairs (row ∷ rows) values = zip row.0 (field_data row.1 values.0) ++ all_pairs rows values.1

-- a field's values are at its keys too, within its limits
abbrev pub IsSet : (f : Field) → List (List ℕ) → Said f → Members → Members → Type 0
IsSet f keys value before after =
    (after ≡ fold with_pair before (zip keys (field_data f value))) × IsWithinField f value

-- the table of a peer
unfoldable pub peer_members : Peer → Members
peer_members p = made (all_pairs peer_rows (peer_values p.terms) ++ (balance_key, integer p.balance) ∷ [])

-- the table of a route to the peer of that name
unfoldable pub route_members : List ℕ → List ℕ → ℕ → Members
route_members prefix peer fee =
    made (zip (keys_of Two Route) (string (prefix_word prefix) ∷ string peer ∷ number_data fee ∷ []))

-- the table of a rate between the peers of these names
unfoldable pub rate_members : List ℕ → List ℕ → Fraction → Members
rate_members from to rate =
    made (zip (keys_of Two Rate) (string from ∷ string to ∷ number_data rate.numerator ∷ number_data rate.denominator ∷ []))

-- the table of a tenant, with those of its peers, routes and rates
unfoldable pub tenant_members : TenantTerms → Items → Items → Items → Members
tenant_members t peers routes rates = made (zip (keys_of Two Tenant) (
    string t.name ∷ string t.address ∷ string t.admin ∷ number_data t.journal ∷ number_data t.margin ∷ number_data t.hold
    ∷ array peers ∷ array routes ∷ array rates ∷ []))

-- the table of a setup of the second version
unfoldable pub setup_members : ℕ → Items → Members
setup_members start tenants = made (zip top_keys (number_data 2 ∷ number_data start ∷ array tenants ∷ []))
