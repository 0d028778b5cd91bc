use Rattle.std.specs.List.{AllWithin}
use Rattle.book_log.specs.Written.{IsLoggable}
use Rattle.book_journal.proofs.loggable.are_kept.Given as goal

abbrev pub invariant-loop-place : goal.invariant-loop-place
invariant-loop-place l = AllWithin IsLoggable l.records.records l.from l.place
