use Rattle.book_log.specs.Written.{IsLoggable}
use Rattle.book_journal.proofs.Visited.{all_new}
use Rattle.book_journal.proofs.loggable.book_is_loggable.Goals as goal

pub returns : goal.returns
returns c =
    all_new IsLoggable c.args.places.now c.args.book.now c.place_of.result c.place_by.result c.place_of.ensures c.place_by.ensures
    c.book_is_loggable_from.ensures
