use denote.Param.{param}
use Rattle.books_shared.proofs.Crossing.{books_sync}
use Rattle.books_shared.proofs.laws.books_are_shared.Goals as goal

pub returns : goal.returns
returns g c = books_sync (param 0 g.row.J) g.J.Run
