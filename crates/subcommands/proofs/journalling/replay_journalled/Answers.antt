use Rattle.subcommands.proofs.LogKept.{all_kept, front_left}
use Rattle.subcommands.proofs.journalling.replay_journalled.Goals as goal

pub returns-in-Ok-clause-kept : goal.returns-in-Ok-clause-kept
returns-in-Ok-clause-kept g c =
    all_kept g.D.LogFile.seen g.D.LogFile.moment g.D.LogFile.left_since g.K.PeriodKeeper.takes c.kept_log_is_written.ensures c.scripts_fit.ensures
    c.tenants_have_begun.ensures c.args.setup.now c.args.workers c.args.journalist.now c.replay_recorded.new.recorder _ c.in-Ok.ensures.recorded

pub returns-in-Ok-clause-any_moment : goal.returns-in-Ok-clause-any_moment
returns-in-Ok-clause-any_moment g c =
    front_left g.D.LogFile.seen g.D.LogFile.moment g.D.LogFile.left_since g.K.PeriodKeeper.takes g.D.LogFile.may_leave
    c.crashes_leave_the_first_records.ensures c.args.setup.now c.args.workers c.args.journalist.now c.replay_recorded.new.recorder _
    c.in-Ok.ensures.recorded
