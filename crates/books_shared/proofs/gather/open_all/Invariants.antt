use Rattle.std.proofs.Common.{◌≡◌, ◌≤◌, [], length, vec_len}
use Rattle.std.specs.Vec.{vec_capacity}
use Rattle.books_shared.specs.Traced.{AreTraced}
use Rattle.books_shared.proofs.gather.open_all.Given as goal

abbrev pub invariant-loop-lock : goal.invariant-loop-lock
invariant-loop-lock g l =
    (vec_len l.books ≡ length l.yielded) × (vec_len l.fn.locks ≤ vec_capacity l.books)
    × AreTraced g.J.Run.openings l.books.items l.parts.tenants × (l.parts.workers ≡ [])
