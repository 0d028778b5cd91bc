use Rattle.std.proofs.Common.{◌≡◌, ◌≤◌, length, vec_len, vec_capacity}
use Rattle.books_shared.proofs.books.begun_locks.Given as goal

abbrev pub invariant-loop-opening : goal.invariant-loop-opening
invariant-loop-opening g l =
    (vec_len l.locks ≡ l.opening-index) × (length l.openings ≤ vec_capacity l.locks)
    × (l.unclaimed.tenants ≡ l.opening-index) × (l.unclaimed.workers ≡ l.initial.unclaimed.workers)
