use Rattle.std.proofs.Common.{◌≡◌, ◌≤◌, take}
use Rattle.books_shared.specs.Gathers.{shares_of}
use Rattle.books_shared.proofs.gather.shares_of.Given as goal

abbrev pub invariant-loop-share : goal.invariant-loop-share
invariant-loop-share g l = (l.count ≡ shares_of l.worker (take l.share-index l.shares)) × (l.count ≤ l.share-index)
