use Rattle.std.proofs.Common.{Option, rules, ap, subst, ◌∙◌}
use Rattle.floor_core.specs.Work.{loaded}
use Rattle.workers.specs.Carrying.{IsCarried, growth}
use Rattle.service.specs.Journal.{with_journal}
use Rattle.service.proofs.Exchanged.{carried_so}
use Rattle.service.proofs.Tallies.{reply_first}
use Rattle.service.proofs.worker.desk.Desk.carry.Goals as goal

pub invariant_of-self : goal.invariant_of-self
invariant_of-self g c = record {
  plain = ap (λ seat. seat.first) c.carry-reply.ensures.seat ∙ reply_first c.args.job.tenant c.carry-reply.result c.args.self.now.seat ∙ c.args.self.now.plain;
  idle = c.carry-reply.ensures.idle;
}

pub returns-clause-carried : goal.returns-clause-carried
returns-clause-carried g c = record {
  reply = c.carry-reply.result;
  status = search rules;
  nameless = c.carry-reply.ensures.nameless;
  malformed = c.carry-reply.ensures.malformed;
  spent = search rules;
  memory = c.carry-reply.ensures.memory;
  sure = c.carry-reply.ensures.lost;
  sent = search rules;
  carried = subst (λ journal. IsCarried (with_journal g.J.Run.openings (g.C.Clock.gives c.args.system.now.clock.now) journal) c.carry-reply.result
      (growth c.args.job.tenant c.args.self.now.share c.carry-reply.new.share) (loaded c.args.self.now.slot c.args.job.tenant c.args.job.token.now c.args.job.frame.now) c.carry-reply.new.slot (λ sending. Unit {0}))
      c.keeper-keeper.ensures (carried_so _ _ (λ sending so. tt) _ c.carry-reply.result _ _ _ c.carry-reply.ensures.carried);
  metered = c.carry-reply.ensures.seat;
}
