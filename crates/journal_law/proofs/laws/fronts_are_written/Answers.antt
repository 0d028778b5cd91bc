use Rattle.journal_law.proofs.Fronts.{front_is_written}
use Rattle.journal_law.proofs.laws.fronts_are_written.Goals as goal

pub returns : goal.returns
returns c = front_is_written c.lines_are_read_back.ensures
