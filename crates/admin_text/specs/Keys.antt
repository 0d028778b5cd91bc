-- The values at the keys of a table.
use Rattle.std.specs.Prelude.{ℕ, Bool, ◌^◌, ℤ, pos, negsuc, List, nat_lt}
use Rattle.std.specs.Prelude.{if◌then◌else◌, Option, Some, None}
use Rattle.toml.specs.Data.{Data, Items, no_items, Members, get_member, as_str, as_integer, as_array}
use Rattle.ilp_addr.specs.OwnAddress.{is_own_address}
use Rattle.common_types.specs.OptionChain.{◌>>=◌}
use Rattle.common_types.specs.Numbers.{is_between}

-- the number, if it is not below 0 and has at most 64 bits
abbrev pub natural : ℤ → Option ℕ
natural (pos n) = if nat_lt n (2 ^ 64) then Some n else None
natural (negsuc n) = None

-- the string at a key
unfoldable pub string_under : List ℕ → Members → Option (List ℕ)
string_under key members = get_member key members >>= as_str

-- a text that passes a test
abbrev pub passing : (List ℕ → Bool) → List ℕ → Option (List ℕ)
passing test text = if test text then Some text else None

-- a tenant's address at a key
unfoldable pub address_under : List ℕ → Members → Option (List ℕ)
address_under key members = string_under key members >>= passing is_own_address

-- the integer at a key
unfoldable pub integer_under : List ℕ → Members → Option ℤ
integer_under key members = get_member key members >>= as_integer

-- the number from 0 at a key, of at most 64 bits
unfoldable pub number_under : List ℕ → Members → Option ℕ
number_under key members = integer_under key members >>= natural

-- a number from low to high
abbrev pub within : ℕ → ℕ → ℕ → Option ℕ
within low high n = if is_between low high n then Some n else None

-- the number from low to high at a key
unfoldable pub between_under : ℕ → ℕ → List ℕ → Members → Option ℕ
between_under low high key members = number_under key members >>= within low high

-- the value at a key, or the default if there is none
abbrev pub or_default : {A : Type 0} → A → Option Data → Option A → Option A
or_default default None found = Some default
or_default default (Some there) found = found

-- the integer at a key, or the default if there is none
unfoldable pub integer_or : ℤ → List ℕ → Members → Option ℤ
integer_or default key members = or_default default (get_member key members) (integer_under key members)

-- the number at a key, or the default if there is none
unfoldable pub number_or : ℕ → List ℕ → Members → Option ℕ
number_or default key members = or_default default (get_member key members) (number_under key members)

-- the array at a key
unfoldable pub array_under : List ℕ → Members → Option Items
array_under key members = get_member key members >>= as_array

-- the items of the array at a key; none without one
unfoldable pub items_under : List ℕ → Members → Option Items
items_under key members = or_default no_items (get_member key members) (array_under key members)

infixl 10 ◌<*>◌
-- what is made of one value more, if none is missing
abbrev pub ◌<*>◌ : {A B : Type 0} → Option (A → B) → Option A → Option B
make <*> value = make >>= (λ f. value >>= (λ v. Some (f v)))
