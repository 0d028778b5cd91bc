use Rattle.book_log.proofs.OneBase.{one_base}
use Rattle.book_log.proofs.laws.one_base.Goals as goal

pub returns : goal.returns
returns c = one_base (record { numerals = c.numerals.ensures; targets = c.targets.ensures; statements = c.read_back.ensures })
