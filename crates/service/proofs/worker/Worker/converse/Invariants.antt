use Rattle.std.proofs.Common.{◌≡◌}
use Rattle.service.proofs.Conversing.{Talk}
use Rattle.service.proofs.worker.Worker.converse.Given as goal

abbrev pub invariant-loop : goal.invariant-loop
invariant-loop g l = record {
  office : l.self.office ≡ l.fn.self.office;
  clock : l.self.clock ≡ l.fn.self.clock;
  talk : Talk (g.C.Clock.gives l.fn.self.clock.now) l.fn.self.office.now l.fn.self.desk (g.P.Read.remaining l.fn.reader) (g.P.Read.remaining l.reader) l.inbox l.self.desk;
}
