use Rattle.std.specs.List.{All, AllWithin}
use Rattle.book_log.specs.Written.{IsLoggable}
use Rattle.tenant_core.specs.State.{State}
use Rattle.book_journal.specs.Written.{new_records}
use Rattle.book_journal.proofs.loggable.books_are_loggable.Given as goal

abbrev pub invariant-loop-book : goal.invariant-loop-book
invariant-loop-book l = AllWithin (λ (b : State). All IsLoggable (new_records l.places b)) l.books 0 l.book-index
