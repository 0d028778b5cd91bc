use Rattle.std.proofs.Common.{◌≡◌, ◌≤◌, ◌+◌, ◌-◌, length}
use Rattle.replay_text.specs.Streams.{TakesBehind}
use Rattle.replay_text.proofs.streams.read_rest.Given as goal

abbrev pub invariant-loop-chunk : goal.invariant-loop-chunk
invariant-loop-chunk g l =
    record {
      taken : TakesBehind (g.R.Read.remaining l.fn.reader) (g.R.Read.remaining l.reader) l.fn.text.items l.text.items;
      bound : length l.text.items ≤ l.end;
      end : l.end ≡ length l.fn.text.items + l.most;
      chunk : length l.chunk ≡ 65536;
      unfailed : g.R.Device.failure_count l.reader ≤ l.before;
    }

abbrev pub decreases-loop-chunk : goal.decreases-loop-chunk
decreases-loop-chunk g l = l.end - length l.text.items
