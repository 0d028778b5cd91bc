use Rattle.std.proofs.Common.{refl, subst}
use Rattle.workers.specs.Carrying.{growth}
use Rattle.workers.specs.Rolling.{IsRolledRipe}
use Rattle.service.specs.Journal.{with_journal}
use Rattle.service.proofs.worker.desk.Desk.roll.Goals as goal

pub returns-clause-rolled : goal.returns-clause-rolled
returns-clause-rolled g c = record {
  answer = c.roll_if_ripe.result;
  spent = c.roll_if_ripe.ensures.spent;
  memory = c.roll_if_ripe.ensures.memory;
  rolled = subst (λ journal. IsRolledRipe (with_journal g.J.Run.openings (g.C.Clock.gives c.args.system.now.clock.now) journal) c.args.percent c.roll_if_ripe.result
      (growth c.args.tenant c.args.self.now.share c.roll_if_ripe.new.share)) c.keeper-keeper.ensures c.roll_if_ripe.ensures.rolled;
  seat = refl;
  slot = refl;
  sent = refl;
}

pub returns-in-Ok-Some-Rolled-clause-rolled : goal.returns-in-Ok-Some-Rolled-clause-rolled
returns-in-Ok-Some-Rolled-clause-rolled g c = record {
  answer = c.roll_if_ripe.result;
  spent = c.roll_if_ripe.ensures.spent;
  memory = c.roll_if_ripe.ensures.memory;
  rolled = subst (λ journal. IsRolledRipe (with_journal g.J.Run.openings (g.C.Clock.gives c.args.system.now.clock.now) journal) c.args.percent c.roll_if_ripe.result
      (growth c.args.tenant c.args.self.now.share c.roll_if_ripe.new.share)) c.keeper-keeper.ensures c.roll_if_ripe.ensures.rolled;
  seat = refl;
  slot = refl;
  sent = refl;
}
