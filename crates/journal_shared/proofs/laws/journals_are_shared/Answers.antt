use denote.Param.{param}
use Rattle.journal_shared.proofs.Crossing.{disk_journal_sync}
use Rattle.journal_shared.proofs.laws.journals_are_shared.Goals as goal

pub returns : goal.returns
returns g c = disk_journal_sync (param 0 g.row.J) g.J.Run
