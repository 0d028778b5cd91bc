use Rattle.std.proofs.Common.{sym, ◌∙◌}
use Rattle.floor_core.specs.FloorView.{world_of}
use Rattle.replay_text.proofs.Fits.{step_of_line_fits}
use Rattle.replay_text.proofs.Takings.{closes_skipped}
use Rattle.replay_text.proofs.Pieces.{long_line, prints_skipped}
use Rattle.replay_text.proofs.replays.run_line.Goals as goal

pub run_step-requires-clause-fits : goal.run_step-requires-clause-fits
run_step-requires-clause-fits g c =
    rw (c.requires.workers, c.requires.tenants) (step_of_line_fits c.args.cast.now.names.now c.args.cast.now.workers c.args.line.now c.in-Runs.step (sym c.in-Ok.ensures ∙ c.in-Runs.is))

pub returns-in-Skipped-clause-printed : goal.returns-in-Skipped-clause-printed
returns-in-Skipped-clause-printed g c =
    prints_skipped c.outputs_are_there.ensures.outputs c.outputs_are_there.ensures.left c.args.cast.now.names.now c.args.cast.now.workers c.args.line.now (world_of c.args.floor.now) c.args.text.now.items (sym c.in-Ok.ensures ∙ c.in-Skipped.is)

pub returns-in-Skipped-clause-closed : goal.returns-in-Skipped-clause-closed
returns-in-Skipped-clause-closed g c =
    closes_skipped c.outputs_are_there.ensures.outputs c.outputs_are_there.ensures.left g.K.PeriodKeeper.takes c.args.cast.now.names.now c.args.cast.now.workers c.args.line.now (world_of c.args.floor.now) c.args.keeper.now (sym c.in-Ok.ensures ∙ c.in-Skipped.is)

pub returns-in-Runs-clause-lost : goal.returns-in-Runs-clause-lost
returns-in-Runs-clause-lost g c = λ behind.
    long_line _ c.args.cast.now.names.now c.args.cast.now.workers c.args.line.now c.in-Runs.step _ _ (sym c.in-Ok.ensures ∙ c.in-Runs.is) (c.run_step.ensures.lost behind)
