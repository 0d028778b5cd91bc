-- Who waits comes nearer to its turn when another has had it.
use Rattle.std.proofs.Common.{ℕ, ◌≡◌, ◌≢◌, ◌<◌, ◌≤◌, inl, inr, length, arith}
use Rattle.std.proofs.lemmas.List.{get_or_past}
use Rattle.std.proofs.lemmas.Bool.{cases_lt}
use Rattle.std.proofs.lemmas.Bool.Decides.{nat_tests}
use Rattle.allotment.specs.Loans.{used_by}
use Rattle.allotment.specs.Waits.{Queued, steps_to, tenant_behind, turn_after, waiting_of}
use Rattle.allotment.specs.WaitsKept.{IsQueue}

-- who waits is one of the tenants
pub is_there : (tenant : ℕ) (queued : Queued) → IsQueue queued → 0 < waiting_of tenant queued → tenant < length queued.loans.used
is_there tenant queued kept waits = elim (cases_lt tenant (length queued.waiting)) [
  | inl below ↦ omega (arith, kept.all_wait, below)
  | inr past ↦ omega (arith, get_or_past queued.waiting tenant 0 past, waits)
]

-- what anyone may have takes the turn
pub turn_taken : (tenant next : ℕ) (before : Queued) → before.loans.share < used_by tenant before.loans
    → turn_after tenant next before ≡ tenant_behind next (length before.loans.used)
turn_taken tenant next before above = grind (arith, nat_tests, above)

-- the turn goes past the next one, and not past another that was no nearer
pub nearer : (next other : ℕ) (before after : Queued) → before.turn < length before.loans.used → next < length before.loans.used
    → other < length before.loans.used → other ≢ next → steps_to next before ≤ steps_to other before
    → length after.loans.used ≡ length before.loans.used → after.turn ≡ tenant_behind next (length before.loans.used)
    → steps_to other after < steps_to other before
nearer next other before after is_turn is_next is_other apart first many turn = grind (arith, nat_tests)
