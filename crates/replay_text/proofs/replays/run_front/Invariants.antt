use Rattle.std.proofs.Common.{◌≡◌, ◌+◌, ◌-◌, ◌≤◌, length}
use Rattle.replay_text.specs.SoFar.{IsBegun}
use Rattle.replay_text.specs.declared.script.TheConstants.{MAX_SCRIPT}
use Rattle.replay_text.proofs.replays.run_front.Given as goal

abbrev pub invariant-loop-goes_on : goal.invariant-loop-goes_on
invariant-loop-goes_on g l = record {
  begun : IsBegun g.K.PeriodKeeper.takes l.cast.names.now l.cast.workers (g.R.Read.remaining l.fn.reader) (g.R.Read.remaining l.reader) l.taken l.held.number l.rest.items l.fn.floor l.floor l.held.text.items l.fn.keeper l.keeper;
  numbered : l.held.number + length l.rest.items ≤ l.taken + 1;
  bound : l.taken ≤ MAX_SCRIPT + 1;
  chunk : length l.chunk ≡ 65536;
  before : l.before ≡ g.R.Device.failure_count l.fn.reader;
  unfailed : g.R.Device.failure_count l.reader ≤ l.before;
}

abbrev pub decreases-loop-goes_on : goal.decreases-loop-goes_on
decreases-loop-goes_on g l = MAX_SCRIPT + 2 - l.taken
