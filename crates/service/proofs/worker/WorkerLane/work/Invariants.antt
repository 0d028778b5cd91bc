use Rattle.std.proofs.Common.{◌≡◌}
use Rattle.service.specs.Answering.{HasServed}
use Rattle.service.proofs.worker.WorkerLane.work.Given as goal

abbrev pub invariant-loop : goal.invariant-loop
invariant-loop g l = record {
  office : l.self.office ≡ l.fn.self.office;
  clock : l.self.clock ≡ l.fn.self.clock;
  served : HasServed (g.C.Clock.gives l.fn.self.clock.now) l.fn.self.office.now l.fn.self.desk l.self.desk;
}
