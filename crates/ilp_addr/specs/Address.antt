-- Addresses (RFC 0015, "Address Requirements").
use Rattle.std.specs.Prelude.{◌≡◌, true, false, ◌++◌, ◌-◌, take, slice_index, ◌≤◌, ℕ, Bool, not, ◌&&◌, ◌||◌, ◌==◌}
use Rattle.std.specs.Prelude.{nat_lt, List, [], ◌∷◌, length, codes, IsTrue, Result, Ok, Err, if◌then◌else◌}
use Rattle.std.specs.List.{slice_split, list_all, list_any}
use Rattle.std.specs.Str.{bytes_eq}
use Rattle.common_types.specs.Numbers.{is_between}
use Rattle.ilp_addr.specs.declared.address.TheConstants.{MAX_ADDRESS}
use Rattle.ilp_addr.specs.declared.fault.AddrFault.{AddrFault}
use Rattle.ilp_addr.specs.declared.fault.AddrFault.TheVariants.{Scheme, Segment, Length}

-- the most bytes of an address, and of a prefix (RFC 0015, "Address Requirements")
abbrev pub max_address : ℕ
max_address = MAX_ADDRESS

-- the parts between the dots, the scheme first
abbrev pub segments : List ℕ → List (List ℕ)
segments bytes = slice_split (λ b. b == 46) bytes

-- the allocation schemes (RFC 0015, "Allocation Schemes")
abbrev pub schemes : List (List ℕ)
schemes =
    codes "g" ∷ codes "private" ∷ codes "example" ∷ codes "peer" ∷ codes "self"
    ∷ codes "test" ∷ codes "test1" ∷ codes "test2" ∷ codes "test3" ∷ codes "local" ∷ []

-- the text is an allocation scheme
unfoldable pub is_scheme : List ℕ → Bool
is_scheme text = list_any (λ scheme. bytes_eq text scheme) schemes

-- a letter, a digit, `_`, `~` or `-`
unfoldable pub is_segment_byte : ℕ → Bool
is_segment_byte b =
    is_between 97 122 b || is_between 65 90 b || is_between 48 57 b
    || (b == 95) || (b == 126) || (b == 45)

-- one or more of these bytes
unfoldable pub is_segment : List ℕ → Bool
is_segment text = not (length text == 0) && list_all is_segment_byte text

-- a scheme and one or more segments
abbrev pub AreAddressParts : List (List ℕ) → Type 0
AreAddressParts [] = ⊥
AreAddressParts (scheme ∷ []) = ⊥
AreAddressParts (scheme ∷ first ∷ others) =
    IsTrue (is_scheme scheme) × IsTrue (is_segment first) × IsTrue (list_all is_segment others)

-- at most 1,023 bytes, which are a scheme and one or more segments
pub record IsAddress (bytes : List ℕ) : Type 0 where
  pub short : length bytes ≤ max_address
  pub parts : AreAddressParts (segments bytes)

-- the segments after a scheme, checked
abbrev pub with_segments : List ℕ → List (List ℕ) → Result (List ℕ) AddrFault
with_segments bytes parts = if list_all is_segment parts then Ok bytes else Err Segment

-- the parts of an address, checked from left to right
abbrev pub parts_at : List ℕ → List (List ℕ) → Result (List ℕ) AddrFault
parts_at bytes [] = Err Scheme
parts_at bytes (scheme ∷ []) = Err Scheme
parts_at bytes (scheme ∷ first ∷ others) =
    if is_scheme scheme then with_segments bytes (first ∷ others) else Err Scheme

-- the address that the bytes are, or the first fault
unfoldable pub address_at : List ℕ → Result (List ℕ) AddrFault
address_at bytes =
    if nat_lt max_address (length bytes) then Err Length else parts_at bytes (segments bytes)

-- ---- prefixes (RFC 0015, "Address Prefixes")

-- the segments of a prefix; the empty prefix has none
abbrev pub prefix_segments : List ℕ → List (List ℕ)
prefix_segments [] = []
prefix_segments (b ∷ bytes) = segments (b ∷ bytes)

-- nothing, only a scheme, or a scheme and segments
abbrev pub ArePrefixParts : List (List ℕ) → Type 0
ArePrefixParts [] = Unit {0}
ArePrefixParts (scheme ∷ others) = IsTrue (is_scheme scheme) × IsTrue (list_all is_segment others)

-- at most 1,023 bytes: nothing, only a scheme, or an address
pub record IsPrefix (bytes : List ℕ) : Type 0 where
  pub short : length bytes ≤ max_address
  pub parts : ArePrefixParts (prefix_segments bytes)

-- the bytes, less one dot at their end
abbrev pub without_last_dot : List ℕ → List ℕ
without_last_dot bytes =
    if slice_index bytes (length bytes - 1) == 46 then take (length bytes - 1) bytes else bytes

-- the parts of a prefix, checked from left to right
abbrev pub prefix_parts_at : List ℕ → List (List ℕ) → Result (List ℕ) AddrFault
prefix_parts_at bytes [] = Ok bytes
prefix_parts_at bytes (scheme ∷ others) =
    if is_scheme scheme then with_segments bytes others else Err Scheme

-- the prefix that the bytes are, without a dot at the end, or the first fault
unfoldable pub checked_prefix : List ℕ → Result (List ℕ) AddrFault
checked_prefix bytes =
    if nat_lt max_address (length bytes) then Err Length else prefix_parts_at bytes (prefix_segments bytes)

-- the prefix that the bytes spell, with or without a dot at the end, or the first fault
unfoldable pub prefix_at : List ℕ → Result (List ℕ) AddrFault
prefix_at bytes =
    if bytes_eq bytes (46 ∷ []) then Err Scheme else checked_prefix (without_last_dot bytes)

-- the first segments are the prefix's, and others may follow
abbrev pub Begins : List (List ℕ) → List (List ℕ) → Type 0
Begins prefix parts = (rest : List (List ℕ)) × (parts ≡ prefix ++ rest)

-- the test of Begins
unfoldable pub begins_with : List (List ℕ) → List (List ℕ) → Bool
begins_with [] parts = true
begins_with (first ∷ prefix) [] = false
begins_with (first ∷ prefix) (part ∷ parts) =
    bytes_eq first part && begins_with prefix parts
