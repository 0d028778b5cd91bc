use Rattle.books_shared.proofs.Gathering.{begins_so}
use Rattle.books_shared.proofs.laws.floors_begin_so.Goals as goal

pub returns : goal.returns
returns c = begins_so
