use Rattle.std.proofs.Common.{sym, subst}
use Rattle.http_link.specs.OperatorDoor.{operator_asking, operator_wanted_at}
use Rattle.http_link.specs.declared.operator_request.OperatorRequest.{OperatorRequest}
use Rattle.service.specs.Operating.{IsOperated, told_at}
use Rattle.service.proofs.operators.answering.OperatorsOperatorService.operator.Goals as goal

pub returns-in-Ask : goal.returns-in-Ask
returns-in-Ask g c = (
  c.answer.ensures.office,
  c.answer.ensures.clock,
  subst (λ (request : OperatorRequest). IsOperated (g.C.Clock.gives c.args.self.now.clock.now) c.args.self.now.office.now request c.args.self.now.desk
      (operator_asking (operator_wanted_at c.args.wanted.now) c.args.body.now c.answer.result) (told_at c.answer.new.self.told c.answer.new.self.desk) c.answer.new.self.desk)
      (sym c.in-Ask.is) (c.answer.ensures.desk, c.answer.ensures.told c.args.body.now),
)
