use Rattle.books_shared.proofs.Counted.{fresh_there}
use Rattle.books_shared.proofs.laws.fresh_shares_are_all_there.Goals as goal

pub returns-clause-fresh : goal.returns-clause-fresh
returns-clause-fresh c = fresh_there
