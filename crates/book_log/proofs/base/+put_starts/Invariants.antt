use Rattle.std.proofs.Common.{length}
use Rattle.book_log.proofs.base.+put_starts.Given as goal

abbrev pub decreases-put_starts : goal.decreases-put_starts
decreases-put_starts l = length l.starts.now
