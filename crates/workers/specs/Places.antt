-- What a tenant asks of the places, and what becomes of those that are lent.
use Rattle.std.specs.Prelude.{ℕ, ◌≡◌, ◌<◌, ◌↔◌, ◌&&◌, Bool, false, IsTrue, if◌then◌else◌, length, nat_lt}
use Rattle.allotment.specs.Loans.{is_granted, used_by}
use Rattle.allotment.specs.Waits.{Queued, given_up_by, kept_for, picked_up_by, waiting_of}
use Rattle.allotment.specs.declared.lending.Admission.{Admission}
use Rattle.allotment.specs.declared.lending.Admission.TheVariants.{Taken, Waits}

abbrev pub has_tenant : ℕ → Queued → Bool
has_tenant tenant queued = nat_lt tenant (length queued.loans.used)

-- the tenant has a place if it is granted one; otherwise it waits, if so many of it may wait
abbrev pub IsAdmitted : ℕ → Queued → Admission → Type 0
IsAdmitted tenant queued admission =
    ((admission ≡ Taken) ↔ IsTrue (is_granted tenant queued.loans))
    × ((admission ≡ Waits) ↔ ((is_granted tenant queued.loans ≡ false) × (waiting_of tenant queued < queued.most_waiting)))

-- a place is kept for one of the tenant that waited
abbrev pub is_kept_for : ℕ → Queued → Bool
is_kept_for tenant queued = has_tenant tenant queued && nat_lt 0 (kept_for tenant queued)

-- what is left of the loans after one of the tenant looked whether a place is kept for it
abbrev pub after_look : ℕ → Queued → Queued
after_look tenant queued = if is_kept_for tenant queued then picked_up_by tenant queued else queued

-- the same after one of the tenant waits no longer
abbrev pub without_one : ℕ → Queued → Queued
without_one tenant queued = if has_tenant tenant queued then given_up_by tenant queued else queued

-- one of the tenant has a place in hand, beside those that are kept for others of it
abbrev pub has_place : ℕ → Queued → Bool
has_place tenant queued = has_tenant tenant queued && nat_lt (kept_for tenant queued) (used_by tenant queued.loans)
