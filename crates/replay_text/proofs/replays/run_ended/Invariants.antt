use Rattle.std.proofs.Common.{◌≡◌, ◌+◌, ◌≤◌, length}
use Rattle.floor_core.specs.FloorView.{HasRoom}
use Rattle.replay_text.specs.SoFar.{RunsOn}
use Rattle.replay_text.proofs.replays.run_ended.Given as goal

abbrev pub invariant-loop-alloc : goal.invariant-loop-alloc
invariant-loop-alloc g l = record {
  run : RunsOn g.K.PeriodKeeper.takes l.cast.names.now l.cast.workers l.part l.rest l.fn.held.number l.held.number l.fn.floor l.floor l.fn.held.text.items l.held.text.items l.fn.keeper l.keeper;
  numbered : l.held.number + length l.rest ≤ l.fn.held.number + length l.part;
  workers : length l.floor.seats ≡ l.cast.workers;
  tenants : length l.floor.books ≡ length l.cast.names.now;
  room : HasRoom l.floor (length l.rest);
}

abbrev pub decreases-loop-alloc : goal.decreases-loop-alloc
decreases-loop-alloc g l = length l.rest
