use Rattle.books_shared.proofs.Counted.{all_there}
use Rattle.books_shared.proofs.laws.all_there.Goals as goal

pub returns : goal.returns
returns c = all_there
