use Rattle.service.specs.Hosting.{Repeats}
use Rattle.service.proofs.host.callers.Porter.attend.Given as goal

abbrev pub invariant-loop : goal.invariant-loop
invariant-loop g l = Repeats g.K.Answering.serves l.fn.self.answering l.self.answering
