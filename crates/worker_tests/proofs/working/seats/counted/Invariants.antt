use Rattle.std.proofs.Common.{◌≡◌, false}
use Rattle.worker_tests.proofs.working.seats.counted.Given as goal

abbrev pub invariant-loop : goal.invariant-loop
invariant-loop l = (l.seat.meters ≡ l.fn.meters.id) × (l.seat.first ≡ false)
