use Rattle.std.proofs.Common.{◌≤◌, length, take}
use Rattle.std.specs.Io.KnownBytes.{Appends}
use Rattle.http_link.specs.Limits.{max_turns}
use Rattle.http_link.specs.Counts.{NoFewer, Spends}
use Rattle.http_link.proofs.streams.write_all.Given as goal

abbrev pub invariant-loop-done : goal.invariant-loop-done
invariant-loop-done g l = record {
  written : Appends (g.W.Write.contents l.fn.w) (g.W.Write.contents l.w) (take l.done l.bytes);
  bound : l.done ≤ length l.bytes;
  unfailed : g.W.Device.failure_count l.w ≤ l.before;
  kept : NoFewer g.W.Sink.was_written l.fn.w l.w;
  made : Spends g.W.Sink.was_written l.fn.w l.w max_turns l.turns;
}

abbrev pub decreases-loop-done : goal.decreases-loop-done
decreases-loop-done g l = l.turns
