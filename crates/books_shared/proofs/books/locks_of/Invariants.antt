use Rattle.std.proofs.Common.{◌≡◌, ◌≤◌, length, vec_len, vec_capacity}
use Rattle.books_shared.proofs.books.locks_of.Given as goal

abbrev pub invariant-loop-tenant : goal.invariant-loop-tenant
invariant-loop-tenant g l =
    (vec_len l.locks ≡ l.tenant) × (length l.setups ≤ vec_capacity l.locks)
    × (l.unclaimed.tenants ≡ l.tenant) × (l.unclaimed.workers ≡ l.initial.unclaimed.workers)
