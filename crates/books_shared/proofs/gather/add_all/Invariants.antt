use Rattle.std.proofs.Common.{◌≡◌, ◌++◌, map}
use Rattle.books_shared.specs.Traced.{share_part}
use Rattle.books_shared.proofs.gather.add_all.Given as goal

abbrev pub invariant-loop-share : goal.invariant-loop-share
invariant-loop-share g l =
    (l.parts.tenants ≡ l.initial.parts.tenants)
    × (l.parts.workers ≡ l.initial.parts.workers ++ map share_part l.yielded)
