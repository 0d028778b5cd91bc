use Rattle.std.proofs.Common.{◌≡◌, ◌≤◌, [], take, length}
use Rattle.std.specs.Io.KnownBytes.{Consumes}
use Rattle.http_link.specs.Counts.{Spends}
use Rattle.http_link.proofs.streams.fetch.Given as goal

abbrev pub invariant-loop-turns : goal.invariant-loop-turns
invariant-loop-turns g l = record {
  none : Consumes (g.R.Read.remaining l.fn.r) (g.R.Read.remaining l.r) [];
  kept : take l.at l.out ≡ take l.at l.fn.out;
  len : length l.out ≡ length l.fn.out;
  unfailed : g.R.Device.failure_count l.r ≤ l.before;
  made : Spends g.R.Source.was_read l.fn.r l.r l.fn.turns l.turns;
}

abbrev pub decreases-loop-turns : goal.decreases-loop-turns
decreases-loop-turns g l = l.turns
