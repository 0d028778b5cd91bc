use Rattle.std.proofs.Common.{arith}
use Rattle.book_journal.proofs.AllSound.{one_more_sound}
use Rattle.book_journal.proofs.journal.are_sound.Goals as goal

pub loop-book-preserved : goal.loop-book-preserved
loop-book-preserved c =
    one_more_sound c.args.books.now c.loop-book.book-index c.book-item.result (omega arith) c.book-item.is c.book_is_sound.ensures c.loop-book.invariant
