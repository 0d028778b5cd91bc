use Rattle.std.proofs.Common.{◌≡◌}
use Rattle.service.proofs.worker.Worker.accepted.Given as goal

abbrev pub invariant-loop : goal.invariant-loop
invariant-loop g l = record {
  office : l.self.office ≡ l.fn.self.office;
  clock : l.self.clock ≡ l.fn.self.clock;
  desk : l.self.desk ≡ l.fn.self.desk;
}
