-- Places that are lent to tenants: how many each tenant uses, and how many are still owed.
use Rattle.std.specs.Prelude.{ℕ, ◌+◌, ◌-◌, ◌*◌, ◌/◌, ◌≤◌, Bool, ◌||◌, List, max, sum, sum_by, if◌then◌else◌, nat_lt, slice_index, slice_set}
use Rattle.common_types.specs.declared.limits.TheConstants.{MAX_TENANTS}
use Rattle.allotment.specs.declared.allotted.TheConstants.{MAX_PLACES}

-- at most as many tenants
abbrev pub max_tenants : ℕ
max_tenants = MAX_TENANTS

-- at most as many places
abbrev pub max_places : ℕ
max_places = MAX_PLACES

-- The share of each tenant: half of an equal part of the places, and one at least. The rest is for anyone. With fewer
-- places than tenants the share is 0.
abbrev pub share_of : (places tenants : ℕ) → ℕ
share_of places tenants = if nat_lt places tenants then 0 else max 1 (places / (2 * tenants))

-- how many places there are, how many of them each tenant is sure of, and how many each tenant uses
pub record Loans : Type 0 where
  pub places : ℕ
  pub share : ℕ
  pub used : List ℕ

-- how many places the tenant uses
abbrev pub used_by : ℕ → Loans → ℕ
used_by tenant loans = slice_index loans.used tenant

-- how many places are lent
abbrev pub places_lent : Loans → ℕ
places_lent loans = sum loans.used

-- how many places nobody uses
abbrev pub free_of : Loans → ℕ
free_of loans = loans.places - places_lent loans

-- how many places tenants may still take up to their shares
abbrev pub owed_of : Loans → ℕ
owed_of loans = sum_by (λ used. loans.share - used) loans.used

-- what is lent and what is owed are no more than there is
abbrev pub IsCovered : Loans → Type 0
IsCovered loans = places_lent loans + owed_of loans ≤ loans.places

-- a tenant gets a place up to its share, and beyond it if the other free places cover what is owed
abbrev pub is_granted : ℕ → Loans → Bool
is_granted tenant loans =
    nat_lt (used_by tenant loans) loans.share || nat_lt (owed_of loans) (free_of loans)

-- the tenant uses so many places
abbrev pub using : ℕ → ℕ → Loans → Loans
using tenant used loans = record loans { used = slice_set loans.used tenant used }

-- the tenant uses one more, or one less
abbrev pub lent_to : ℕ → Loans → Loans
lent_to tenant loans = using tenant (used_by tenant loans + 1) loans

abbrev pub given_back_by : ℕ → Loans → Loans
given_back_by tenant loans = using tenant (used_by tenant loans - 1) loans

-- the tenant has asked for a place
abbrev pub asked_by : ℕ → Loans → Loans
asked_by tenant loans = if is_granted tenant loans then lent_to tenant loans else loans
