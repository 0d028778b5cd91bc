use Rattle.std.proofs.Common.{◌≡◌, ◌≤◌, ◌*◌, ◌+◌, take}
use Rattle.books_shared.specs.Gathers.{total_at}
use Rattle.books_shared.specs.Shares.{max_count}
use Rattle.books_shared.proofs.gather.total_at.Given as goal

abbrev pub invariant-loop-share : goal.invariant-loop-share
invariant-loop-share g l =
    (l.total ≡ total_at l.tenant (take l.share-index l.shares)) × (l.total ≤ l.share-index * (max_count + 1))
