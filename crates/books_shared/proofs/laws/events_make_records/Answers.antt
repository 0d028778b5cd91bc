use Rattle.books_shared.proofs.Gathering.{events_make}
use Rattle.books_shared.proofs.laws.events_make_records.Goals as goal

pub returns : goal.returns
returns c = events_make
