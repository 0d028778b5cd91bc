-- A child of a tenant, and the address that it is given (RFC 0031).
use Rattle.std.specs.Prelude.{◌≡◌, ◌<◌, ◌≤◌, ℕ, true, List, ◌++◌, length, codes}
use Rattle.common_types.specs.Names.{is_name, is_asset_code}
use Rattle.ilp_addr.specs.Address.{IsAddress}
use Rattle.ilp_addr.specs.OwnAddress.{max_own_address}
use Rattle.ildcp_core.specs.declared.child.Role.{Role}

-- What a peer's configuration is made of: what it is to the tenant, the tenant's address, the peer's
-- name, and the scale and the code of its asset.
pub record Client : Type 0 where
  pub role : Role
  pub tenant : List ℕ
  pub name : List ℕ
  pub scale : ℕ
  pub code : List ℕ

-- The tenant's address is one of at most 900 bytes, the scale is a byte, and the name and the code are
-- valid.
pub record IsClient (c : Client) : Type 0 where
  pub tenant : IsAddress c.tenant
  pub short : length c.tenant ≤ max_own_address
  pub name : is_name c.name ≡ true
  pub scale : c.scale < 256
  pub code : is_asset_code c.code ≡ true

-- The address below a tenant's that a name gives: the tenant's address, a dot, and the name.
abbrev pub address_below : List ℕ → List ℕ → List ℕ
address_below tenant name = tenant ++ (codes "." ++ name)

-- The address that a child is given, its client address (RFC 0031).
abbrev pub client_address : Client → List ℕ
client_address c = address_below c.tenant c.name
