use Rattle.std.proofs.Common.{◌≡◌, drop}
use Rattle.std.specs.Prelude.{◌||◌}
use Rattle.books_shared.specs.Shares.{has_full}
use Rattle.books_shared.proofs.share.has_full.Given as goal

abbrev pub invariant-loop-count : goal.invariant-loop-count
invariant-loop-count l = has_full l.counts ≡ (l.full || has_full (drop l.count-index l.counts))
