use Rattle.journal_law.proofs.Crashes.{all_is_added}
use Rattle.journal_law.proofs.laws.crashes_leave_the_first_records.Goals as goal

pub returns : goal.returns
returns g c file world left steps first last by durable recorded =
    all_is_added g.D.LogFile.seen g.D.LogFile.moment g.D.LogFile.left_since g.D.LogFile.may_leave (λ f text since. g.met.D.LogFile.only_now f text since) _
    file world left steps first last by durable recorded
