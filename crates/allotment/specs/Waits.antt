-- Who waits for a place, for whom one is kept that came back, and whose turn it is.
use Rattle.std.specs.Prelude.{ℕ, ◌≡◌, ◌+◌, ◌-◌, ◌<◌, ◌≤◌, ◌==◌, true, false, List, length, Option, None, Some, if◌then◌else◌, nat_lt, slice_index, slice_set}
use Rattle.allotment.specs.Loans.{Loans, given_back_by, is_granted, lent_to, used_by}

-- Loans of places, and the tenants that wait. `most_waiting` bounds how many of one tenant may wait, `waiting` counts
-- those of each tenant that do, and `kept` the places kept for those that have waited. `turn` is the tenant whose turn
-- is next.
pub record Queued : Type 0 where
  pub loans : Loans
  pub most_waiting : ℕ
  pub waiting : List ℕ
  pub kept : List ℕ
  pub turn : ℕ

-- how many of the tenant wait, and how many places are kept for it
abbrev pub waiting_of : ℕ → Queued → ℕ
waiting_of tenant queued = slice_index queued.waiting tenant

abbrev pub kept_for : ℕ → Queued → ℕ
kept_for tenant queued = slice_index queued.kept tenant

-- nobody waits who could have a place
abbrev pub NobodyWaitsInVain : Queued → Type 0
NobodyWaitsInVain queued =
    (tenant : ℕ) → 0 < waiting_of tenant queued → is_granted tenant queued.loans ≡ false

-- how many tenants come before this one, counted from the one whose turn it is, and on from the last to the first
abbrev pub steps_to : ℕ → Queued → ℕ
steps_to tenant queued =
    if nat_lt tenant queued.turn then tenant + length queued.loans.used - queued.turn else tenant - queued.turn

-- no tenant of which some wait comes before this one
abbrev pub IsNextInTurn : ℕ → Queued → Type 0
IsNextInTurn tenant queued =
    (other : ℕ) → 0 < waiting_of other queued → steps_to tenant queued ≤ steps_to other queued

-- the tenant after this one of so many: after the last comes the first
abbrev pub tenant_behind : ℕ → (tenants : ℕ) → ℕ
tenant_behind tenant tenants = if tenant + 1 == tenants then 0 else tenant + 1

-- Whose turn it is after the tenant gave back a place that is kept for `next`: the tenant after `next` if the giver
-- used more than its share. Otherwise the turn stays: a place of a tenant's own share takes nobody's turn.
abbrev pub turn_after : (tenant next : ℕ) → Queued → ℕ
turn_after tenant next queued =
    if nat_lt queued.loans.share (used_by tenant queued.loans) then tenant_behind next (length queued.loans.used)
    else queued.turn

-- one more of the tenant waits, or one less
abbrev pub waits_for : ℕ → Queued → Queued
waits_for tenant queued =
    record queued { waiting = slice_set queued.waiting tenant (waiting_of tenant queued + 1) }

abbrev pub given_up_by : ℕ → Queued → Queued
given_up_by tenant queued =
    record queued { waiting = slice_set queued.waiting tenant (waiting_of tenant queued - 1) }

-- the tenant has asked: it has a place if it is granted one; otherwise one more of it waits, if so many may wait
abbrev pub asked_for : ℕ → Queued → Queued
asked_for tenant queued =
    if is_granted tenant queued.loans then record queued { loans = lent_to tenant queued.loans }
    else (if nat_lt (waiting_of tenant queued) queued.most_waiting then waits_for tenant queued else queued)

-- a place that the tenant used is free
abbrev pub returned_by : ℕ → Queued → Queued
returned_by tenant queued = record queued { loans = given_back_by tenant queued.loans }

-- a place is taken for one of the tenant that waits, and kept for it
abbrev pub kept_by : ℕ → Queued → Queued
kept_by tenant queued = record queued {
  loans = lent_to tenant queued.loans;
  waiting = slice_set queued.waiting tenant (waiting_of tenant queued - 1);
  kept = slice_set queued.kept tenant (kept_for tenant queued + 1);
}

-- one of the tenant has picked up a place that was kept for it
abbrev pub picked_up_by : ℕ → Queued → Queued
picked_up_by tenant queued =
    record queued { kept = slice_set queued.kept tenant (kept_for tenant queued - 1) }

-- a place of the tenant came back, and is kept for one that waits and may have it, if anyone does
abbrev pub IsPlaceBack : ℕ → Queued → Option ℕ → Queued → Type 0
IsPlaceBack tenant before None after = after ≡ returned_by tenant before
IsPlaceBack tenant before (Some next) after =
    (0 < waiting_of next before) × (is_granted next (given_back_by tenant before.loans) ≡ true)
    × (after ≡ record (kept_by next (returned_by tenant before)) { turn = turn_after tenant next before })
