use Rattle.std.proofs.Common.{◌≡◌, ◌≤◌, length, vec_capacity}
use Rattle.books_shared.specs.Shares.{fresh_shares}
use Rattle.books_shared.proofs.books.fresh_shares.Given as goal

abbrev pub invariant-loop-worker : goal.invariant-loop-worker
invariant-loop-worker g l =
    (l.shares.items ≡ fresh_shares l.audited l._worker) × (length l.shares.items ≡ l._worker) × (l.workers ≤ vec_capacity l.shares)
    × (l.unclaimed.workers ≡ l._worker)
