use Rattle.journal_law.proofs.Shared.{shared_is_written}
use Rattle.journal_law.proofs.laws.shared_log_is_written.Goals as goal

pub returns : goal.returns
returns g c = shared_is_written g.D.LogFile.seen g.D.LogFile.may_leave
