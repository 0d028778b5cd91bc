use Rattle.journal_law.proofs.Shared.{crash_leaves}
use Rattle.journal_law.proofs.laws.crashes_leave_fronts.Goals as goal

pub returns : goal.returns
returns g c = crash_leaves c.lines_are_read_back.ensures g.D.LogFile.seen g.D.LogFile.may_leave
