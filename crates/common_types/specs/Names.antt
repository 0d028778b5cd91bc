-- Names of tenants and peers, and codes of assets.
use Rattle.std.specs.Prelude.{ℕ, List, length, Bool, ◌&&◌, ◌||◌, ◌==◌}
use Rattle.std.specs.List.{list_all}
use Rattle.common_types.specs.Numbers.{is_between}

-- lower-case letters, digits and `-`
abbrev pub is_name_byte : ℕ → Bool
is_name_byte b = is_between 97 122 b || is_between 48 57 b || (b == 45)

-- a name is 1 to 32 of these
abbrev pub is_name : List ℕ → Bool
is_name bytes = is_between 1 32 (length bytes) && list_all is_name_byte bytes

-- letters and digits
abbrev pub is_asset_byte : ℕ → Bool
is_asset_byte b = is_between 65 90 b || is_between 97 122 b || is_between 48 57 b

-- the code of an asset is 1 to 16 of these
abbrev pub is_asset_code : List ℕ → Bool
is_asset_code bytes = is_between 1 16 (length bytes) && list_all is_asset_byte bytes
