use Rattle.std.proofs.Common.{refl, subst}
use Rattle.workers.specs.Carrying.{IsDone, growth}
use Rattle.service.specs.Journal.{with_journal}
use Rattle.service.proofs.worker.desk.Desk.govern.Goals as goal

pub returns-clause-governed : goal.returns-clause-governed
returns-clause-governed g c = record {
  answer = c.govern-answer.result;
  spent = c.govern-answer.ensures.spent;
  memory = c.govern-answer.ensures.memory;
  done = subst (λ journal. IsDone (with_journal g.J.Run.openings (g.C.Clock.gives c.args.system.now.clock.now) journal) c.govern-answer.result
      (growth c.args.tenant c.args.self.now.share c.govern-answer.new.share) c.args.command.now) c.keeper-keeper.ensures c.govern-answer.ensures.done;
  metered = c.govern-answer.ensures.seat;
  slot = refl;
  sent = refl;
  told_so = c.tell.ensures.told;
}
