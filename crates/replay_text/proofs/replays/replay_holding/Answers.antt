use Rattle.replay_text.proofs.Composition.{left_as_read, written_as_read}
use Rattle.replay_text.proofs.Takings.{taken_as_read}
use Rattle.replay_text.proofs.replays.replay_holding.Goals as goal

pub returns-in-Ok-clause-written : goal.returns-in-Ok-clause-written
returns-in-Ok-clause-written g c =
    written_as_read c.frames_that_go_on.ensures c.args.setup.now c.args.workers c.in-Ok.setup c.replay_for.result _ _ _ c.in-Ok.ensures.exact c.replay_for.ensures.written

pub returns-in-Ok-clause-left : goal.returns-in-Ok-clause-left
returns-in-Ok-clause-left g c =
    left_as_read c.frames_that_go_on.ensures c.args.setup.now c.args.workers c.in-Ok.setup c.replay_for.result _ _ _ c.in-Ok.ensures.exact c.replay_for.ensures.left

pub returns-in-Ok-clause-closed : goal.returns-in-Ok-clause-closed
returns-in-Ok-clause-closed g c =
    taken_as_read c.frames_that_go_on.ensures g.K.PeriodKeeper.takes c.args.setup.now c.args.workers c.in-Ok.setup c.replay_for.result _ _ _ c.in-Ok.ensures.exact c.replay_for.ensures.closed
