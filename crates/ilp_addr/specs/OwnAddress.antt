-- Addresses of the connector's own: those of its tenants (RFC 0015).
use Rattle.std.specs.Prelude.{ℕ, Bool, false, not, ◌&&◌, List, [], ◌∷◌, length, codes, nat_le, is_ok}
use Rattle.std.specs.Str.{bytes_eq}
use Rattle.ilp_addr.specs.Address.{segments, address_at}
use Rattle.ilp_addr.specs.declared.own_address.TheConstants.{MAX_OWN_ADDRESS}

-- the first segment is that one
abbrev pub begins_at : List ℕ → List (List ℕ) → Bool
begins_at name [] = false
begins_at name (first ∷ others) = bytes_eq first name

-- an address for direct neighbours, which no packet is sent on for (RFC 0015, "Allocation Schemes")
abbrev pub is_for_neighbors : List ℕ → Bool
is_for_neighbors bytes = begins_at (codes "peer") (segments bytes)

-- the most bytes of a tenant's address, so that each address below it has room for a name
abbrev pub max_own_address : ℕ
max_own_address = MAX_OWN_ADDRESS

-- an address of at most 900 bytes that packets are sent on for
abbrev pub is_own_address : List ℕ → Bool
is_own_address bytes =
    nat_le (length bytes) max_own_address && is_ok (address_at bytes) && not (is_for_neighbors bytes)
