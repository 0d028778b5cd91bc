-- Calls of many tenants, one after another, and the answers that one of them gets.
use Rattle.std.specs.Prelude.{ℕ, ◌≡◌, ◌+◌, ◌-◌, ◌<◌, ◌==◌, Bool, true, ◌&&◌, List, [], ◌∷◌, ◌++◌, filter, length, nat_lt, if◌then◌else◌}
use Rattle.allotment.specs.Loans.{Loans, asked_by, given_back_by, is_granted, used_by}

-- a tenant takes a place or gives one back
pub record PlaceCall : Type 0 where
  pub tenant : ℕ
  pub takes : Bool

-- the loans after a call
abbrev pub loans_after : PlaceCall → Loans → Loans
loans_after call loans = if call.takes then asked_by call.tenant loans else given_back_by call.tenant loans

-- the answer to a tenant at a call: whether it got a place, if it asked for one
abbrev pub told_at : ℕ → PlaceCall → Loans → List Bool
told_at tenant call loans = if (call.tenant == tenant) && call.takes then is_granted call.tenant loans ∷ [] else []

-- the answers to a tenant, call by call
abbrev pub told_to : ℕ → List PlaceCall → Loans → List Bool
told_to tenant [] loans = []
told_to tenant (call ∷ calls) loans = told_at tenant call loans ++ told_to tenant calls (loans_after call loans)

-- the calls of one tenant
abbrev pub calls_by : ℕ → List PlaceCall → List PlaceCall
calls_by tenant calls = filter (λ call. call.tenant == tenant) calls

-- a tenant that uses so many places asks for one only while it uses less than its share
abbrev pub asks_within : ℕ → ℕ → ℕ → List PlaceCall → Bool
asks_within tenant share used [] = true
asks_within tenant share used (call ∷ calls) =
    if call.tenant == tenant
    then (if call.takes
    then nat_lt used share && asks_within tenant share (used + 1) calls
    else asks_within tenant share (used - 1) calls)
    else asks_within tenant share used calls

-- a tenant finds the same of itself in two worlds: its share, and how many places it uses
pub record IsAlike (tenant : ℕ) (one other : Loans) : Type 0 where
  pub share : one.share ≡ other.share
  pub used : used_by tenant one ≡ used_by tenant other
  pub is_one : tenant < length one.used
  pub is_other : tenant < length other.used
