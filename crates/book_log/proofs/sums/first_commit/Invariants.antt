use Rattle.std.proofs.Common.{length}
use Rattle.book_log.proofs.Commits.{IsReadSoFar}
use Rattle.book_log.proofs.sums.first_commit.Given as goal

abbrev pub invariant-loop-line : goal.invariant-loop-line
invariant-loop-line l = IsReadSoFar l.text l.rest

abbrev pub decreases-loop-line : goal.decreases-loop-line
decreases-loop-line l = length l.rest
