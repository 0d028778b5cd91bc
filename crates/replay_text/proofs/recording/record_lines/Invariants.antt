use Rattle.std.proofs.Common.{◌≡◌, ◌≤◌, length}
use Rattle.floor_core.specs.FloorView.{HasRoom, world_of}
use Rattle.replay_text.specs.Recorded.{PrintsOnceKept, by_recorder}
use Rattle.replay_text.specs.Script.{lines_of, steps_in, NoneIsBad}
use Rattle.replay_text.proofs.Recordings.{Along}
use Rattle.replay_text.proofs.recording.record_lines.Given as goal

abbrev pub invariant-loop-rest : goal.invariant-loop-rest
invariant-loop-rest g l = record {
  along : Along (by_recorder g.K.PeriodKeeper.takes g.K.Recorder.keeps) l.cast.names.now (world_of l.fn.floor)
      (steps_in l.cast.names.now l.cast.workers (lines_of l.script)) (steps_in l.cast.names.now l.cast.workers (lines_of l.rest))
      l.fn.recorder l.recorder (world_of l.floor) l.text.items (g.W.Write.contents l.fn.writer) (g.W.Write.contents l.writer);
  kept : PrintsOnceKept (by_recorder g.K.PeriodKeeper.takes g.K.Recorder.keeps) l.cast.names.now (world_of l.fn.floor)
      (steps_in l.cast.names.now l.cast.workers (lines_of l.script)) l.fn.recorder (g.W.Write.contents l.fn.writer) (g.W.Write.contents l.writer);
  good : NoneIsBad l.cast.names.now l.cast.workers (lines_of l.rest);
  workers : length l.floor.seats ≡ l.cast.workers;
  tenants : length l.floor.books ≡ length l.cast.names.now;
  room : HasRoom l.floor (length l.rest);
  before : l.before ≡ g.W.Device.failure_count l.fn.writer;
  unfailed : g.W.Device.failure_count l.writer ≤ l.before;
}

abbrev pub decreases-loop-rest : goal.decreases-loop-rest
decreases-loop-rest g l = length l.rest
