use Rattle.book_log.specs.Written.{IsLoggable}
use Rattle.book_journal.specs.Written.{closed_state}
use Rattle.book_journal.proofs.Visited.{all_new}
use Rattle.book_journal.proofs.loggable.period_is_loggable.Goals as goal

pub returns : goal.returns
returns c =
    all_new IsLoggable c.args.places.now (closed_state c.args.period.now) c.place_after.result c.place_by.result c.place_after.ensures
    c.place_by.ensures c.period_is_loggable_from.ensures
