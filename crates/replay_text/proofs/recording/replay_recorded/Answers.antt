use Rattle.std.proofs.Common.{length, ◌∙◌, arith}
use Rattle.replay_text.specs.Recorded.{by_recorder}
use Rattle.replay_text.proofs.Composition.{has_room}
use Rattle.replay_text.proofs.Recordings.{recorded_for}
use Rattle.replay_text.proofs.recording.replay_recorded.Goals as goal

pub record_lines-requires-clause-room : goal.record_lines-requires-clause-room
record_lines-requires-clause-room g c =
    has_room c.as_slice-tenants.result.now c.args.setup.now.start (length c.as_slice-2.result.now) c.in-Ok-new.floor c.in-Ok-new.ensures.world
    (omega (arith, c.in-Ok-good_script.ensures.short, c.as_slice-2.ensures.len))

pub returns-clause-recorded : goal.returns-clause-recorded
returns-clause-recorded g c =
    recorded_for (by_recorder g.K.PeriodKeeper.takes g.K.Recorder.keeps) c.as_slice.result.now c.args.workers c.args.setup.now (g.R.Read.remaining c.args.reader.now)
    c.in-Ok-good_script.script.items c.as_slice-2.result.now c.record_lines.result _ _ _ _
    (c.as_slice.ensures.value ∙ c.in-Ok.ensures) c.in-Ok-good_script.ensures.steps (rw c.as_slice-tenants.ensures.value at c.in-Ok-new.ensures.world)
    c.in-Ok-good_script.ensures.whole c.as_slice-2.ensures.value c.record_lines.ensures.recorded
