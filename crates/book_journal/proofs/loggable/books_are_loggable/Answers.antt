use Rattle.std.proofs.Common.{arith}
use Rattle.std.specs.List.{All}
use Rattle.book_log.specs.Written.{IsLoggable}
use Rattle.tenant_core.specs.State.{State}
use Rattle.book_journal.specs.Written.{new_records}
use Rattle.book_journal.proofs.Visited.{all_items, next_item}
use Rattle.book_journal.proofs.loggable.books_are_loggable.Goals as goal

pub loop-book-preserved : goal.loop-book-preserved
loop-book-preserved c =
    next_item (λ (b : State). All IsLoggable (new_records c.args.places.now b)) c.args.books.now c.loop-book.book-index c.book-item.result
    (omega arith) c.book-item.is c.book_is_loggable.ensures c.loop-book.invariant

pub returns : goal.returns
returns c =
    all_items (λ (b : State). All IsLoggable (new_records c.args.places.now b)) c.args.books.now c.loop-book.book-index (omega arith)
    c.loop-book.invariant
