use Rattle.std.proofs.Common.{◌≡◌}
use Rattle.books_shared.specs.Gathers.{each_has_one}
use Rattle.books_shared.proofs.gather.each_has_one.Given as goal

abbrev pub invariant-loop-worker : goal.invariant-loop-worker
invariant-loop-worker g l = l.all ≡ each_has_one l.worker l.shares
